-- `version::wraps` meets its contract: the issue of the first word decides, and without a table nothing wraps.
use mathlib.Core.Path.{◌≡◌}
use native.Mathlib.Omega.{arith}
use borrow.Author.Tests.{ne_eqb}
use Rattle.version.specs.Issue.{wraps}
use Rattle.version.proofs.wraps.Goals as goal

pub returns-then-h-gt0 : goal.returns-then-h-gt0
unfolding wraps
returns-then-h-gt0 c =
    let h = c.args.h in
    rw (ne_eqb h.versions 0 (λ e. omega (arith, e)), c.is_before_3.ensures, c.versions_at.ensures)

pub returns-else-h-gt0 : goal.returns-else-h-gt0
unfolding wraps
returns-else-h-gt0 c =
    let h = c.args.h in
    let none : h.versions ≡ 0 = omega arith in
    rw none
