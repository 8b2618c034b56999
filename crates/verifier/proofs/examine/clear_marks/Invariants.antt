-- The marks from `at` on decide.
use Rattle.verifier.proofs.Turning.{Unmarking}
use Rattle.verifier.proofs.examine.clear_marks.Given as goal

abbrev pub invariant-loop-at : goal.invariant-loop-at
invariant-loop-at l = Unmarking l.initial.w l.w l.size l.at
