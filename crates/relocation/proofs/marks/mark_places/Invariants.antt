-- `marks::mark_places` meets its contract: each turn marks a region, and what is left decides. The measure is the procedures
-- left.
use Prim.Native.Nat.{◌-◌}
use Rattle.relocation.proofs.Walking.{Regions}
use Rattle.relocation.proofs.marks.mark_places.Given as goal

abbrev pub invariant-loop-p : goal.invariant-loop-p
invariant-loop-p l = Regions l.code l.initial.marks l.marks l.p

abbrev pub decreases-loop-p : goal.decreases-loop-p
decreases-loop-p l = l.count - l.p
