-- `crate::table::number_at` meets its contract: row by row, and the rest of the table decides.
use Prim.Native.Nat.{◌-◌}
use Rattle.registers.proofs.Rows.{Numbering}
use Rattle.registers.proofs.table.number_at.Given as goal

abbrev pub invariant-loop-k : goal.invariant-loop-k
invariant-loop-k l = Numbering l.table l.n l.a l.start l.k

abbrev pub decreases-loop-k : goal.decreases-loop-k
decreases-loop-k l = l.n - l.k
