-- `copy::write_copy` meets its contract: each turn writes the code of one member behind those before it, and what is left
-- decides. The measure is the modules left.
use Prim.Native.Nat.{ℕ, ◌-◌, ◌≤◌}
use mathlib.Core.List.{List}
use Rattle.module_set.specs.Members.{members_of}
use Rattle.relocation.proofs.Copying.{Written}
use Rattle.relocation.proofs.copy.write_copy.Given as goal

abbrev pub invariant-loop-k : goal.invariant-loop-k
invariant-loop-k l =
    (l.k-end ≤ 16) × ((lists : List ℕ) → Written (members_of l.records lists l.directory) l.initial.copy l.copy l.at l.k)

abbrev pub decreases-loop-k : goal.decreases-loop-k
decreases-loop-k l = l.k-end - l.k
