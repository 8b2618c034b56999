-- `entries::entries_sound` meets its contract. The loop's invariant: all entries rise just if what is left of them, entry 0
-- last, rises from `least` on.
use Prim.Native.Nat.{◌-◌}
use mathlib.Core.List.{[], ◌∷◌, ◌++◌}
use mathlib.Core.Path.{◌≡◌}
use lib.ListN.{length}
use Rattle.entries.specs.Entries.{entry_at, entries_from}
use Rattle.words.specs.Order.{rising_from}
use Rattle.entries.proofs.entries_sound.Given as goal

abbrev pub invariant-loop-p : goal.invariant-loop-p
invariant-loop-p l =
    rising_from (length l.code) 0 (entries_from l.code 1 (l.p-end - 1) ++ (entry_at l.code 0 ∷ []))
    ≡ rising_from (length l.code) l.least (entries_from l.code l.p (l.p-end - l.p) ++ (entry_at l.code 0 ∷ []))
