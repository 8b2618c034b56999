-- Each turn gives one entry its list, and what is left decides.
use Rattle.std.proofs.Common.{rules}
use Rattle.verifier.proofs.Steps.{entered-next}
use Rattle.verifier.proofs.walk.give_entries.Goals as goal

pub loop-p-preserved : goal.loop-p-preserved
loop-p-preserved c = search (rules, entered-next)
