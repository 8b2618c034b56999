-- `effect::data::free_effect` meets its contract: MP moves down, not below FP.
use Prim.Native.Nat.{◌+◌, ◌<◌}
use native.Mathlib.Omega.{arith}
use borrow.Author.Tests.{lt-leb, le-leb}
use Rattle.effect.specs.Data.{free_effect}
use Rattle.effect.proofs.data.free_effect.Goals.{Then-q-size}
use Rattle.effect.proofs.data.free_effect.Goals as goal

abbrev Deep : Then-q-size → Type 0
Deep c = let a = c.args in a.q.mp < a.q.fp + a.size

-- More words than there are above FP, and the trap is then 38.
deep : (c : Then-q-size) → Deep c
deep c = omega (arith, c.if-q-size.true)

deep-is-38 : ((c : Then-q-size) → Deep c) → goal.returns-then-q-size
unfolding free_effect
deep-is-38 below c =
    let a = c.args in
    rw (lt-leb (a.q.fp + a.size) a.q.mp (below (goal.at.returns-then-q-size c).Then-q-size))

pub returns-then-q-size : goal.returns-then-q-size
returns-then-q-size = deep-is-38 deep

pub returns : goal.returns
unfolding free_effect
returns c =
    let sized = c.sized in
    let if1 = c.if-q-size in
    let a = c.args in
    rw (le-leb (a.q.fp + a.size) a.q.mp (omega (arith, if1.false)), sized.ensures)
