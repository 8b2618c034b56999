-- `source::pairs_covering` meets its contract. The loop's invariant: the pairs passed cover the offset, so all that cover
-- it are `k` and those of what is left, and the place has gone 8 bytes a pair. The measure is what is left.
use Prim.Native.Nat.{◌+◌, ◌*◌, ◌-◌, ◌≤◌}
use mathlib.Core.Path.{◌≡◌}
use Rattle.source.specs.Source.{offsets_from, covering}
use Rattle.source.proofs.pairs_covering.Given as goal

abbrev pub invariant-loop-k : goal.invariant-loop-k
invariant-loop-k l =
    (l.k ≤ l.pairs) × (l.at ≡ l.initial.at + 8 * l.k)
    × (covering l.offset (offsets_from l.r l.initial.at l.pairs) ≡ l.k + covering l.offset (offsets_from l.r l.at
    (l.pairs - l.k)))

abbrev pub decreases-loop-k : goal.decreases-loop-k
decreases-loop-k l = l.pairs - l.k
