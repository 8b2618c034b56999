-- The marks from `at` on decide.
use Rattle.std.proofs.Common.{rules}
use Rattle.verifier.proofs.Turning.{unmarking-next}
use Rattle.verifier.proofs.examine.clear_marks.Goals as goal

pub loop-at-preserved : goal.loop-at-preserved
loop-at-preserved c = search (rules, unmarking-next)
