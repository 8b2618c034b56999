-- A slot a turn, and those still to come off decide the list that is left.
use Rattle.compact.proofs.Lowering.{Lowering}
use Rattle.compact.proofs.top.Top.lowered_by.Given as goal

abbrev pub invariant-loop : goal.invariant-loop
invariant-loop l = Lowering l.code l.w l.n l.initial.top l.top l.counter
