-- `operate::arithmetic::unsigned_value` meets its contract: a sum, a product or a difference goes by the rule, and a quotient
-- or a remainder is no larger than x.
use native.Mathlib.Nat.{div-le_self, mod-le}
use borrow.Author.Tests.{eq-eqb, ne_eqb}
use Rattle.operate.specs.Arithmetic.{unsigned_value}
use Rattle.operate.proofs.Naturals.{no-larger}
use Rattle.operate.proofs.arithmetic.unsigned_value.Goals as goal

pub returns-then-y-eq0 : goal.returns-then-y-eq0
unfolding unsigned_value
returns-then-y-eq0 c = rw (c.in-Divide.is, eq-eqb c.args.y 0 c.if-y-eq0.true)

pub returns-then-y-eq0-2 : goal.returns-then-y-eq0-2
unfolding unsigned_value
returns-then-y-eq0-2 c = rw (c.in-Modulus.is, eq-eqb c.args.y 0 c.if-y-eq0-2.true)

pub returns-in-Add : goal.returns-in-Add
unfolding unsigned_value
returns-in-Add c = rw c.in-Add.is c.unsigned_word.ensures

pub returns-in-Subtract : goal.returns-in-Subtract
unfolding unsigned_value
returns-in-Subtract c = rw c.in-Subtract.is c.unsigned_difference.ensures

pub returns-in-Multiply : goal.returns-in-Multiply
unfolding unsigned_value
returns-in-Multiply c = rw c.in-Multiply.is c.unsigned_word-in-Multiply.ensures

pub returns-else-y-eq0 : goal.returns-else-y-eq0
unfolding unsigned_value
returns-else-y-eq0 c =
    rw (c.in-Divide.is, ne_eqb c.args.y 0 c.if-y-eq0.false)
    (no-larger _ _ c.ranges.x (div-le_self _ c.args.y))

pub returns-else-y-eq0-2 : goal.returns-else-y-eq0-2
unfolding unsigned_value
returns-else-y-eq0-2 c =
    rw (c.in-Modulus.is, ne_eqb c.args.y 0 c.if-y-eq0-2.false)
    (no-larger _ _ c.ranges.x (mod-le _ c.args.y))
