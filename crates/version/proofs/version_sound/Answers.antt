-- `version::version_sound` meets its contract: no table, or its first word names an issue.
use borrow.Author.Tests.{eq-eqb, ne_eqb}
use Rattle.version.specs.Version.{version_sound}
use Rattle.version.proofs.version_sound.Goals as goal

pub returns-then-h-eq0 : goal.returns-then-h-eq0
unfolding version_sound
returns-then-h-eq0 c = rw (eq-eqb _ 0 c.if-h-eq0.true)

pub returns-else-h-eq0 : goal.returns-else-h-eq0
unfolding version_sound
returns-else-h-eq0 c = rw (ne_eqb _ 0 c.if-h-eq0.false, c.issue_at.ensures, c.versions_at.ensures)
