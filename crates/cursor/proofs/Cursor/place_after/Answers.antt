-- `cursor::Cursor::place_after` meets its contract: each branch's test says which case of `place_after` holds.
use borrow.Author.Tests.{le-ltb, lt-ltb}
use Rattle.cursor.specs.Cursor.{place_after}
use Rattle.cursor.proofs.Cursor.place_after.Goals as goal

pub returns-then-at-record : goal.returns-then-at-record
unfolding place_after
returns-then-at-record c = rw (lt-ltb _ _ c.if-at-record.true)

pub returns-else-at-record : goal.returns-else-at-record
unfolding place_after
returns-else-at-record c = rw (le-ltb _ _ c.if-at-record.false)
