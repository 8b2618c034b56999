-- `state::is_chained` meets its contract: the walk goes down the chain of frames until one is not low enough. The measure is
-- what is left of the calls.
use Prim.Native.Nat.{◌-◌}
use Rattle.state.proofs.Chains.{Followed}
use Rattle.state.proofs.is_chained.Given as goal

abbrev pub invariant-loop : goal.invariant-loop
invariant-loop l = Followed l.memory l.start l.fp l.calls l.frame l.counter

abbrev pub decreases-loop : goal.decreases-loop
decreases-loop l = l.calls - l.counter
