-- `mend::copy_pairs` meets its contract. The loop's invariant: those kept of the pairs passed are copied, and the place is
-- behind them. The measure is the pairs left.
use Rattle.mend.proofs.Passing.{Passed}
use Rattle.mend.proofs.Sifting.{Copied}
use Rattle.mend.proofs.copy_pairs.Given as goal

abbrev pub invariant-loop-at : goal.invariant-loop-at
invariant-loop-at l = Passed (λ kept dropped. Copied l.r l.initial.out l.to kept l.out l.next) l.r l.h l.pairs

abbrev pub decreases-loop-at : goal.decreases-loop-at
decreases-loop-at l = l.pairs.left
