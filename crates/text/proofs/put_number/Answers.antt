-- `text::put_number` meets its contract: after i turns the digits behind the first i are left to write.
use Prim.Native.Nat.{◌-◌}
use mathlib.Core.Path.{◌≡◌}
use native.Mathlib.Omega.{arith}
use Rattle.text.specs.Text.{decimal}
use Rattle.text.proofs.Writing.{left-start, left-next, left_over, wrote_one, digits-one, width-bounds}
use Rattle.text.proofs.Writing.{power-positive, power-is, power-fits}
use Rattle.text.proofs.put_number.Goals as goal

pub loop-i-init : goal.loop-i-init
loop-i-init c =
    let w = c.width_of-digits.result in
    left-start (let all : w - 0 ≡ w = omega arith in rw all) (omega arith)

pub pow-requires : goal.pow-requires
pow-requires c = power-fits _ (omega (arith, c.width_of-digits.ensures, width-bounds c.args.n))

pub nonzero_div-digit : goal.nonzero_div-digit
nonzero_div-digit c =
    let k = c.width_of-digits.result - 1 - c.loop-i.i in
    rw (c.pow.ensures, power-is k) (power-positive k)

pub loop-i-preserved : goal.loop-i-preserved
loop-i-preserved c =
    let w = c.width_of-digits.result in
    let i = c.loop-i.i in
    left-next c.loop-i.invariant (digits-one w i c.args.n c.loop-i-test.true)
    (wrote_one (rw (← power-is (w - 1 - i), ← c.pow.ensures) c.set_byte.ensures) (omega arith))

pub returns : goal.returns
unfolding decimal
returns c =
    let w = c.width_of-digits.result in
    let none : w - c.loop-i.i ≡ 0 = omega arith in
    rw (← c.width_of-digits.ensures) (left_over c.loop-i.invariant (rw none) (omega arith))
