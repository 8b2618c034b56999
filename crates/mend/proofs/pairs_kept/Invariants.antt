-- `mend::pairs_kept` meets its contract. The loop's invariant: as many are counted as were kept of the pairs passed. The measure
-- is the pairs left.
use mathlib.Core.Path.{◌≡◌}
use lib.ListN.{length}
use Rattle.mend.proofs.Passing.{Passed}
use Rattle.mend.proofs.pairs_kept.Given as goal

abbrev pub invariant-loop-kept : goal.invariant-loop-kept
invariant-loop-kept l = Passed (λ passed dropped. l.count ≡ length passed) l.r l.h l.pairs

abbrev pub decreases-loop-kept : goal.decreases-loop-kept
decreases-loop-kept l = l.pairs.left
