-- `entries::count_sound` meets its contract: entry 0 is 2, or else entry 1 passes its tests.
use borrow.Author.Tests.{eq-eqb, ne_eqb, le-leb}
use native.Mathlib.Omega.{arith}
use Rattle.std.proofs.lemmas.Grind.{common_steps}
use Rattle.entries.specs.Entries.{count_sound}
use Rattle.entries.proofs.count_sound.Goals as goal

pub returns-then-entry_at-eq2 : goal.returns-then-entry_at-eq2
unfolding count_sound
returns-then-entry_at-eq2 c = rw (← c.entry_at.ensures, eq-eqb _ 2 c.if-entry_at-eq2.true)

pub returns-then-first-ge4 : goal.returns-then-first-ge4
unfolding count_sound
returns-then-first-ge4 c = rw (
  ← c.entry_at.ensures,
  ne_eqb _ 2 c.if-entry_at-eq2.false,
  ← c.entry_at-first.ensures,
  eq-eqb _ 0 c.if-first-ge4.true.0,
  le-leb 4 _ c.if-first-ge4.true.1,
)

pub returns-else-first-ge4 : goal.returns-else-first-ge4
unfolding count_sound
returns-else-first-ge4 c = grind (arith, common_steps)
