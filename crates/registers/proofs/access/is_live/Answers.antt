-- `crate::access::is_live` meets its contract: a + n is at most MP where n is, and a is at most the rest.
use Prim.Native.Nat.{◌+◌}
use native.Mathlib.Omega.{arith}
use borrow.Author.Tests.{lt-leb}
use Rattle.registers.specs.Memory.{live}
use Rattle.registers.proofs.Protected.{at-most-less}
use Rattle.registers.proofs.access.is_live.Goals as goal

pub returns-then-n-mp : goal.returns-then-n-mp
unfolding live
returns-then-n-mp c = at-most-less c.args.a c.args.n c.args.q.mp c.if-n-mp.true

pub returns-else-n-mp : goal.returns-else-n-mp
unfolding live
returns-else-n-mp c = rw (lt-leb (c.args.a + c.args.n) c.args.q.mp (omega arith)) (lt-leb c.args.n c.args.q.mp c.if-n-mp.false)
