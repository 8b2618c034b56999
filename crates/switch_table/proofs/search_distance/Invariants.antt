-- `switch_table::search_distance` meets its contract. The loop's invariant: the whole search is the search from range k on.
-- The measure is the number of ranges left.
use Prim.Native.Nat.{◌-◌, ◌≤◌}
use mathlib.Core.Path.{◌≡◌}
use Rattle.switch_table.specs.Switch.{search_from}
use Rattle.switch_table.proofs.search_distance.Given as goal

abbrev pub invariant-loop-k : goal.invariant-loop-k
invariant-loop-k l = (l.k ≤ l.n) × (search_from l.code l.at l.x 0 l.n ≡ search_from l.code l.at l.x l.k (l.n - l.k))

abbrev pub decreases-loop-k : goal.decreases-loop-k
decreases-loop-k l = l.n - l.k
