-- `mend::list_pairs` meets its contract. The loop's invariant: both words of those dropped of the pairs passed are listed, and
-- the place is behind them. The measure is the pairs left.
use Prim.Native.Nat.{◌+◌}
use mathlib.Core.Path.{◌≡◌}
use lib.ListN.{length}
use lib.Seq.{sets}
use Rattle.mend.proofs.Passing.{Passed}
use Rattle.mend.proofs.list_pairs.Given as goal

abbrev pub invariant-loop-at : goal.invariant-loop-at
invariant-loop-at l =
    Passed (λ kept dropped. (l.places ≡ sets l.initial.places l.to dropped) × (l.next ≡ l.to + length dropped)) l.r l.h l.pairs

abbrev pub decreases-loop-at : goal.decreases-loop-at
decreases-loop-at l = l.pairs.left
