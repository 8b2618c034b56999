-- `version::is_before_3` meets its contract: the number decides, and its characters tell whether it is below 3; past the end
-- they are 0.
use borrow.Author.Tests.{lt-leb}
use Rattle.version.proofs.Issues.{past-tens, units-tell}
use Rattle.version.proofs.is_before_3.Goals as goal

pub returns-then-byte_at-le48 : goal.returns-then-byte_at-le48
returns-then-byte_at-le48 c =
    rw c.byte_behind.ensures (units-tell _ _ (rw (← c.byte_at.ensures) c.if-byte_at-le48.true))

pub returns-else-byte_at-le48 : goal.returns-else-byte_at-le48
returns-else-byte_at-le48 c =
    rw (lt-leb _ 48 c.if-byte_at-le48.false) (past-tens _ _ (rw (← c.byte_at.ensures) c.if-byte_at-le48.false))
