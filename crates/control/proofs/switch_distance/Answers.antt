-- `control::switch_distance` meets its contract: a branch of the table or the range found, or ELSE.
use mathlib.Core.Path.{◌≡◌}
use borrow.Author.Tests.{le-leb, lt-leb, eq-eqb, ne_eqb}
use Rattle.switch_table.specs.Switch.{branch_distance}
use Rattle.control.proofs.switch_distance.Goals.{After-branch_distance}
use Rattle.control.proofs.switch_distance.Goals as goal

branches : (c : After-branch_distance) →
    let a = c.args in
    c.branch_distance.result ≡ branch_distance a.code.now a.at a.x
branches c = c.branch_distance.ensures

pub returns-then-x-n : goal.returns-then-x-n
returns-then-x-n c =
    let if1 = c.if-x-n in
    let a = c.args in
    rw (c.in-Branches.is, le-leb a.x a.n if1.true, branches (goal.at.returns-then-x-n c).After-branch_distance)

pub returns-then-distance-eq0 : goal.returns-then-distance-eq0
returns-then-distance-eq0 c =
    let else-distance2 = c.else_distance-then-distance-eq0 in
    let if2 = c.if-distance-eq0 in
    let search-distance = c.search_distance-distance in
    rw (
      c.in-Ranges.is,
      ← search-distance.ensures,
      eq-eqb search-distance.result 0 if2.true,
      else-distance2.ensures,
    )

pub returns-else-x-n : goal.returns-else-x-n
returns-else-x-n c =
    let else-distance = c.else_distance in
    let if1 = c.if-x-n in
    let a = c.args in
    rw (c.in-Branches.is, lt-leb a.x a.n if1.false, else-distance.ensures)

pub returns-else-distance-eq0 : goal.returns-else-distance-eq0
returns-else-distance-eq0 c =
    let if2 = c.if-distance-eq0 in
    let search-distance = c.search_distance-distance in
    rw (c.in-Ranges.is, ← search-distance.ensures, ne_eqb search-distance.result 0 if2.false)
