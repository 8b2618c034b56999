-- The members from `k` on decide.
use Prim.Native.Nat.{◌≤◌}
use mathlib.Core.Path.{◌≡◌}
use lib.ListN.{drop}
use Rattle.module_set.specs.Members.{members_of}
use Rattle.module_set.specs.Linked.{every_member}
use Rattle.header.specs.Header.{code_of}
use Rattle.verifier.specs.Check.{results_sound}
use Rattle.verifier.proofs.results.lists_sound.Given as goal

abbrev pub invariant-loop-k : goal.invariant-loop-k
invariant-loop-k l =
    (l.k-end ≤ 16)
    × (let S = members_of l.records l.lists l.directory in
    every_member (λ M. results_sound (code_of M.bytes) M.results) S
    ≡ every_member (λ M. results_sound (code_of M.bytes) M.results) (drop l.k S))
