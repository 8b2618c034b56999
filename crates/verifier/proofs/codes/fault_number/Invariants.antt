-- `lowest` has the lowest number of the modules before `k`.
use mathlib.Core.Path.{◌≡◌}
use lib.ListN.{drop}
use Rattle.words.specs.Refusal.{lower}
use Rattle.numbers.specs.Number.{number}
use Rattle.module_set.specs.Linked.{lowest_of}
use Rattle.verifier.specs.Check.{fault_in}
use Rattle.verifier.specs.Lent.{members}
use Rattle.verifier.proofs.codes.fault_number.Given as goal

abbrev pub invariant-loop-k : goal.invariant-loop-k
invariant-loop-k l =
    let S = members l.set in
    lower (number l.lowest) (lowest_of (fault_in S) (drop l.k S)) ≡ lowest_of (fault_in S) S
