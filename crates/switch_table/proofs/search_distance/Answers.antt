-- `switch_table::search_distance` meets its contract. The loop's invariant: the whole search is the search from range k on.
-- The measure is the number of ranges left.
use Prim.Native.Nat.{◌-◌}
use mathlib.Core.Path.{◌≡◌, ◌∙◌}
use native.Mathlib.Omega.{arith}
use Rattle.switch_table.specs.Switch.{search_distance}
use Rattle.switch_table.proofs.Ranges.{search-step}
use Rattle.switch_table.proofs.search_distance.Goals as goal

pub loop-k-init : goal.loop-k-init
loop-k-init c = let e : c.args.n - 0 ≡ c.args.n = omega arith in (omega arith, rw e)

pub overflow_add-k : goal.overflow_add-k
overflow_add-k c = omega (arith, c.ranges.n)

pub loop-k-smaller : goal.loop-k-smaller
loop-k-smaller c = omega arith

pub loop-k-preserved : goal.loop-k-preserved
loop-k-preserved c =
    let a = c.args in
    let loop = c.loop-k in
    let e = search-step a.code.now a.at a.x loop.k a.n (omega arith) in
    (omega arith, loop.invariant.1 ∙ e ∙ rw (← c.range_holds.ensures, c.if-range_holds.false))

pub returns-then-k-n : goal.returns-then-k-n
unfolding search_distance
returns-then-k-n c =
    let a = c.args in
    let loop = c.loop-k in
    let e : a.n - loop.k ≡ 0 = omega arith in
    rw (loop.invariant.1, e)

pub returns-then-range_holds : goal.returns-then-range_holds
unfolding search_distance
returns-then-range_holds c =
    let a = c.args in
    let loop = c.loop-k in
    rw (
      loop.invariant.1,
      search-step a.code.now a.at a.x loop.k a.n (omega arith),
      ← c.range_holds.ensures,
      c.if-range_holds.true,
      c.range_distance.ensures,
    )
