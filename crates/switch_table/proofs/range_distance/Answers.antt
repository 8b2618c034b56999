-- `switch_table::range_distance` meets its contract: a halfword of the table.
use Prim.Native.Nat.{◌+◌, ◌*◌}
use mathlib.Core.Path.{◌≡◌}
use native.Mathlib.Omega.{arith}
use Rattle.switch_table.specs.Switch.{range_distance}
use Rattle.switch_table.proofs.range_distance.Goals as goal

pub returns : goal.returns
unfolding range_distance
returns c =
    let halfword-behind = c.halfword_behind in
    let a = c.args in
    let e : a.at + 7 + 10 * a.k + 8 ≡ a.at + (15 + 10 * a.k) = omega arith in
    rw e halfword-behind.ensures
