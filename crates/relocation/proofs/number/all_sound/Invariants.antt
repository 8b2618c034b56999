-- `number::all_sound` meets its contract: the members from one on decide. The measure is the modules left.
use Prim.Native.Nat.{ℕ, ◌-◌, ◌≤◌}
use mathlib.Core.List.{List}
use mathlib.Core.Path.{◌≡◌}
use lib.ListN.{drop}
use Rattle.module_set.specs.Members.{members_of}
use Rattle.module_set.specs.Linked.{every_member}
use Rattle.relocation.specs.Relocation.{relocation_sound}
use Rattle.relocation.proofs.number.all_sound.Given as goal

abbrev pub invariant-loop-k : goal.invariant-loop-k
invariant-loop-k l =
    (l.k-end ≤ 16)
    × ((lists : List ℕ) →
    let S = members_of l.records lists l.directory in
    every_member (λ M. relocation_sound M.bytes) S ≡ every_member (λ M. relocation_sound M.bytes) (drop l.k S))

abbrev pub decreases-loop-k : goal.decreases-loop-k
decreases-loop-k l = l.k-end - l.k
