-- `switch_table::range_holds` meets its contract: both bounds stand in the table, the lower one first.
use Prim.Native.Nat.{◌+◌, ◌*◌}
use mathlib.Core.Path.{◌≡◌}
use native.Mathlib.Omega.{arith}
use Rattle.switch_table.specs.Switch.{range_holds}
use Rattle.switch_table.proofs.range_holds.Goals as goal

pub returns-then-at_most : goal.returns-then-at_most
unfolding range_holds
returns-then-at_most c =
    let a = c.args in
    let low : a.at + 7 + 10 * a.k ≡ a.at + (7 + 10 * a.k) = omega arith in
    let high : a.at + 7 + 10 * a.k + 4 ≡ a.at + (11 + 10 * a.k) = omega arith in
    rw (
      high,
      low,
      ← c.word_behind-lower.ensures,
      ← c.at_most.ensures,
      c.if-at_most.true,
      c.at_most-then-at_most.ensures,
      c.word_behind.ensures,
    )

pub returns-else-at_most : goal.returns-else-at_most
unfolding range_holds
returns-else-at_most c =
    let a = c.args in
    let low : a.at + 7 + 10 * a.k ≡ a.at + (7 + 10 * a.k) = omega arith in
    rw (low, ← c.word_behind-lower.ensures, ← c.at_most.ensures, c.if-at_most.false)
