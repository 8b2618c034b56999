-- `crate::table::data_start` meets its contract: the sizes of the rows before, added up.
use Prim.Native.Nat.{◌-◌, ◌/◌}
use lib.ListN.{length}
use Rattle.registers.proofs.Rows.{Adding}
use Rattle.registers.proofs.table.data_start.Given as goal

abbrev pub invariant-loop-i : goal.invariant-loop-i
invariant-loop-i l = Adding l.table (length l.table / 5) l.k l.start l.i

abbrev pub decreases-loop-i : goal.decreases-loop-i
decreases-loop-i l = l.k - l.i
