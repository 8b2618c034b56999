-- `table::fill_table` meets its contract: each turn writes the row of one member behind those before it, and what is left
-- decides. The measure is the modules left.
use Prim.Native.Nat.{ℕ, ◌-◌, ◌≤◌}
use mathlib.Core.List.{List}
use Rattle.module_set.specs.Members.{members_of}
use Rattle.load.proofs.Tabling.{Tabled}
use Rattle.load.proofs.table.fill_table.Given as goal

abbrev pub invariant-loop-k : goal.invariant-loop-k
invariant-loop-k l =
    (l.k-end ≤ 16) × ((lists : List ℕ) → Tabled (members_of l.records lists l.directory) l.initial.table l.table l.at l.k)

abbrev pub decreases-loop-k : goal.decreases-loop-k
decreases-loop-k l = l.k-end - l.k
