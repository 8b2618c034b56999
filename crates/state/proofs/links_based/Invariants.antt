-- `state::links_based` meets its contract: the walk goes down the chain of frames until one is not so. The measure is what is
-- left of the
-- calls.
use Prim.Native.Nat.{◌-◌}
use Rattle.state.proofs.Chains.{Looking}
use Rattle.state.proofs.links_based.Given as goal

abbrev pub invariant-loop : goal.invariant-loop
invariant-loop l = Looking l.table l.memory l.start l.fp l.calls l.frame l.counter

abbrev pub decreases-loop : goal.decreases-loop
decreases-loop l = l.calls - l.counter
