-- `source::source_sound` meets its contract. The loop's invariant: the whole table rises just if what is left of it rises
-- from `least` on, and the place has gone 8 bytes a pair. The measure is what is left.
use Prim.Native.Nat.{◌+◌, ◌*◌, ◌-◌}
use mathlib.Core.Path.{◌≡◌}
use Rattle.words.specs.Order.{rising_from}
use Rattle.source.specs.Source.{offsets_from}
use Rattle.source.proofs.source_sound.Given as goal

abbrev pub invariant-loop : goal.invariant-loop
invariant-loop l =
    (l.at ≡ l.initial.at + 8 * l.counter)
    × (rising_from l.code 0 (offsets_from l.r l.initial.at l.pairs) ≡ rising_from l.code l.least (offsets_from l.r l.at
    (l.pairs - l.counter)))

abbrev pub decreases-loop : goal.decreases-loop
decreases-loop l = l.pairs - l.counter
