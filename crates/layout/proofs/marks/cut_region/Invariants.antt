-- Each turn marks one instruction, and what is left decides.
use Rattle.layout.proofs.Turns.{Region}
use Rattle.layout.proofs.marks.cut_region.Given as goal

abbrev pub invariant-loop : goal.invariant-loop
invariant-loop l = Region l.code l.p l.initial.w l.w l.at l.counter
