-- Each turn gives one entry its list, and what is left decides.
use Rattle.verifier.proofs.Steps.{Entered}
use Rattle.verifier.proofs.walk.give_entries.Given as goal

abbrev pub invariant-loop-p : goal.invariant-loop-p
invariant-loop-p l = Entered l.code l.initial.w l.w l.p
