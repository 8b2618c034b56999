-- `entries::region_end` meets its contract: the next entry in the order 1, 2, .., 0, and after 0 the end of the code.
use borrow.Author.Tests.{eq-eqb, ne_eqb, le-ltb, lt-ltb}
use Rattle.entries.specs.Entries.{region_end}
use Rattle.entries.proofs.region_end.Goals as goal

pub returns-then-p-eq0 : goal.returns-then-p-eq0
unfolding region_end
returns-then-p-eq0 c = rw (eq-eqb _ 0 c.if-p-eq0.true)

pub returns-then-p-entry_count : goal.returns-then-p-entry_count
unfolding region_end
returns-then-p-entry_count c = rw (
  ne_eqb _ 0 c.if-p-eq0.false,
  ← c.entry_count.ensures,
  lt-ltb _ _ c.if-p-entry_count.true,
  c.entry_at.ensures,
)

pub returns : goal.returns
unfolding region_end
returns c = rw (
  ne_eqb _ 0 c.if-p-eq0.false,
  ← c.entry_count.ensures,
  le-ltb _ _ c.if-p-entry_count.false,
  c.entry_at-2.ensures,
)
