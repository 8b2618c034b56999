-- Each turn hands the list to one branch, and what is left decides.
use Rattle.verifier.proofs.Steps.{branched-next}
use Rattle.verifier.proofs.hand.Visited.hand_table.Goals as goal

pub loop-k-preserved : goal.loop-k-preserved
loop-k-preserved c =
    branched-next c.loop-k.invariant (rw c.table_size-k-end.ensures at c.loop-k-test.true) c.table_target-place.ensures
    (rw c.way_toward.ensures at c.hand.ensures) c.in_ok-low.was c.hand.auto.w
