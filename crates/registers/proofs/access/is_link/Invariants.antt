-- `crate::access::is_link` meets its contract: the walk goes down the chain of frames until the address lies at or above one.
use Prim.Native.Nat.{◌-◌}
use Rattle.registers.proofs.Links.{Walked}
use Rattle.registers.proofs.access.is_link.Given as goal

abbrev pub invariant-loop : goal.invariant-loop
invariant-loop l = Walked l.m l.start l.fp l.calls l.a l.frame l.counter

abbrev pub decreases-loop : goal.decreases-loop
decreases-loop l = l.calls - l.counter
