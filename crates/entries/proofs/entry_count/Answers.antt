-- `entries::entry_count` meets its contract: one entry where entry 0 is 2, else half of entry 1.
use borrow.Author.Tests.{eq-eqb, ne_eqb}
use Rattle.entries.specs.Entries.{entry_count}
use Rattle.entries.proofs.entry_count.Goals as goal

pub returns-then-entry_at-eq2 : goal.returns-then-entry_at-eq2
unfolding entry_count
returns-then-entry_at-eq2 c = rw (← c.entry_at.ensures, eq-eqb _ 2 c.if-entry_at-eq2.true)

pub returns : goal.returns
unfolding entry_count
returns c = rw (← c.entry_at.ensures, ne_eqb _ 2 c.if-entry_at-eq2.false, c.entry_at-2.ensures)
