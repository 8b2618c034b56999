-- `operate::arithmetic::signed_value` meets its contract: each arm is its line of the definition, and what it computes fits.
use mathlib.Core.Path.{◌∙◌, refl}
use borrow.Author.Tests.{eq-eqb, ne_eqb}
use Rattle.opcode.specs.declared.instruction.Arithmetic.TheVariants.{Add, Subtract, Multiply, Divide}
use Rattle.operate.specs.Arithmetic.{signed_value}
use Rattle.operate.proofs.Operands.{stored_is}
use Rattle.operate.proofs.arithmetic.signed_value.Goals as goal

pub returns-then-y-eq0 : goal.returns-then-y-eq0
unfolding signed_value
returns-then-y-eq0 c = rw (c.in-Divide.is, eq-eqb c.args.y 0 c.if-y-eq0.true)

pub returns-then-y-eq0-2 : goal.returns-then-y-eq0-2
unfolding signed_value
returns-then-y-eq0-2 c = rw (c.in-Modulus.is, eq-eqb c.args.y 0 c.if-y-eq0-2.true)

pub returns-in-Add : goal.returns-in-Add
returns-in-Add c = rw c.in-Add.is
    (c.signed_word.ensures
    ∙ stored_is Add c.ranges.x c.signed.ensures
    c.ranges.y c.signed-in-Add.ensures refl)

pub returns-in-Subtract : goal.returns-in-Subtract
returns-in-Subtract c = rw c.in-Subtract.is
    (c.signed_word-in-Subtract.ensures
    ∙ stored_is Subtract c.ranges.x c.signed-in-Subtract.ensures
    c.ranges.y c.signed-in-Subtract-2.ensures refl)

pub returns-in-Multiply : goal.returns-in-Multiply
returns-in-Multiply c = rw c.in-Multiply.is
    (c.signed_word-in-Multiply.ensures
    ∙ stored_is Multiply c.ranges.x c.signed-in-Multiply.ensures
    c.ranges.y c.signed-in-Multiply-2.ensures refl)

pub returns-else-y-eq0 : goal.returns-else-y-eq0
returns-else-y-eq0 c = rw c.in-Divide.is
    (c.signed_word-in-Divide.ensures
    ∙ stored_is Divide c.ranges.x c.signed-in-Divide.ensures
    c.ranges.y c.signed-in-Divide-2.ensures
    (ne_eqb c.args.y 0 c.if-y-eq0.false))

pub returns-else-y-eq0-2 : goal.returns-else-y-eq0-2
returns-else-y-eq0-2 c = rw c.in-Modulus.is c.modulus.ensures
