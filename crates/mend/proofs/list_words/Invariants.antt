-- `mend::list_words` meets its contract. The loop's invariant: the stores of the places that are left give those of all. The
-- measure is what is left.
use Prim.Native.Nat.{◌+◌, ◌*◌, ◌-◌}
use mathlib.Core.Path.{◌≡◌}
use lib.Seq.{sets}
use Rattle.mend.specs.Mend.{word_places}
use Rattle.mend.proofs.list_words.Given as goal

abbrev pub invariant-loop-k : goal.invariant-loop-k
invariant-loop-k l =
    (l.place ≡ l.at + 4 * l.k)
    × (sets l.initial.places l.to (word_places l.at l.n) ≡ sets l.places (l.to + l.k) (word_places l.place (l.n - l.k)))

abbrev pub decreases-loop-k : goal.decreases-loop-k
decreases-loop-k l = l.n - l.k
