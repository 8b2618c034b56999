-- The ranges of a SWITCH_X, one after the other.
use mathlib.Core.Bool.{cond}
use mathlib.Core.Path.{◌≡◌}
use mathlib.Core.List.{List}
use Prim.Native.Nat.{ℕ, ◌+◌, ◌-◌, ◌<◌}
use Rattle.words.proofs.Left.{one_left}
use Rattle.switch_table.specs.Switch.{range_holds, range_distance, search_from}

-- The search at a range before the end.
pub search-step :
    (code : List ℕ) (at x k n : ℕ) →
    k < n →
    search_from code at x k (n - k) ≡ cond (range_holds code at k x) (range_distance code at k) (search_from code at x (k + 1) (n - (k + 1)))
search-step code at x k n h = rw (one_left k n h)
