-- `copy::is_copy` meets its contract: what the copy begins with from a place on decides, for the members from one on. The
-- measure is the modules left.
use Prim.Native.Nat.{ℕ, ◌-◌, ◌*◌, ◌≤◌}
use mathlib.Core.List.{List}
use mathlib.Core.Path.{◌≡◌}
use lib.ListN.{drop}
use Rattle.module_set.specs.Members.{members_of}
use Rattle.relocation.specs.Relocation.{copies_from, copy_of, begins}
use Rattle.relocation.proofs.copy.is_copy.Given as goal

abbrev pub invariant-loop-k : goal.invariant-loop-k
invariant-loop-k l =
    (l.k-end ≤ 16) × (l.at ≤ 4096 * l.k)
    × ((lists : List ℕ) →
    let S = members_of l.records lists l.directory in
    begins (copy_of S) l.copy ≡ begins (copies_from S (drop l.k S)) (drop l.at l.copy))

abbrev pub decreases-loop-k : goal.decreases-loop-k
decreases-loop-k l = l.k-end - l.k
