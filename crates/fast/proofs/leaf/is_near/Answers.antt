-- `fast::leaf::is_near` meets its contract: no link word lies more than three below.
use Prim.Native.Nat.{◌-◌}
use borrow.Author.Tests.{lt-leb}
use Rattle.fast.proofs.Walking.{near-far}
use Rattle.fast.proofs.leaf.is_near.Goals as goal

pub returns-else-frame-a-le3 : goal.returns-else-frame-a-le3
returns-else-frame-a-le3 c =
    let a = c.args in
    rw (lt-leb (a.frame - a.a) 3 c.if-frame-a-le3.false) (near-far a.memory.now a.frame a.a c.if-frame-a-le3.false)
