-- Each turn visits one offset, and what is left decides.
use Rattle.std.proofs.Common.{rules}
use Rattle.verifier.proofs.Steps.{walked_next}
use Rattle.verifier.proofs.walk.walk.Goals as goal

pub loop-preserved : goal.loop-preserved
loop-preserved c = search (rules, walked_next)
