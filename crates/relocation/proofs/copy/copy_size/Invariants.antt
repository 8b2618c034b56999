-- `copy::copy_size` meets its contract: the sizes so far and those of the members from one on make the whole. The measure is
-- the modules left.
use Prim.Native.Nat.{ℕ, ◌-◌, ◌≤◌}
use mathlib.Core.List.{List}
use Rattle.module_set.specs.Members.{members_of}
use Rattle.relocation.proofs.Copying.{Counted}
use Rattle.relocation.proofs.copy.copy_size.Given as goal

abbrev pub invariant-loop-k : goal.invariant-loop-k
invariant-loop-k l =
    (l.k-end ≤ 16)
    × ((lists : List ℕ) → Counted (members_of l.records lists l.directory) l.size l.k)

abbrev pub decreases-loop-k : goal.decreases-loop-k
decreases-loop-k l = l.k-end - l.k
