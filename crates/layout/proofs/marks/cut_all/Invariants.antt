-- Each turn marks a region, and what is left decides.
use Rattle.layout.proofs.Turns.{Regions}
use Rattle.layout.proofs.marks.cut_all.Given as goal

abbrev pub invariant-loop-p : goal.invariant-loop-p
invariant-loop-p l = Regions l.code l.initial.w l.w l.p
