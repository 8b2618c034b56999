-- `operate::arithmetic::modulus` meets its contract: the remainder is the modulus where it is 0 or has the divisor's sign,
-- and else their sum is.
use mathlib.Core.Path.{◌≡◌, ◌∙◌, sym, ap}
use mathlib.Core.Bool.{not}
use lib.IntN.{ℤ}
use borrow.Author.Tests.{ne_eqb}
use mir.Syntax.{w32, w64}
use mir.Val.{SFits, to_z, of_z}
use Rattle.opcode.specs.declared.instruction.Arithmetic.TheVariants.{Divide, Modulus}
use Rattle.operate.specs.Arithmetic.{mod_z, signed_value}
use Rattle.operate.specs.Value.{signed_word}
use Rattle.operate.proofs.Operands.{operands-fit, divisor, read_fits, value-is}
use Rattle.operate.proofs.Remainders.{rest-zero, rest-same, rest-other, sum_fits}
use Rattle.operate.proofs.arithmetic.modulus.Goals.{After-signed}
use Rattle.operate.proofs.arithmetic.modulus.Goals as goal

first : (c : After-signed) → SFits w32 (to_z w64 (of_z w64 c.signed.result))
first c = read_fits c.ranges.x c.signed.ensures

second : (c : After-signed) → SFits w32 (to_z w64 (of_z w64 c.signed-divisor.result))
second c = read_fits c.ranges.y c.signed-divisor.ensures

divided : (c : After-signed) (z : ℤ)
    → z ≡ mod_z (to_z w64 (of_z w64 c.signed.result)) (to_z w64 (of_z w64 c.signed-divisor.result))
    → signed_word z ≡ signed_value Modulus c.args.x c.args.y
divided c z =
    value-is Modulus c.ranges.x c.signed.ensures c.ranges.y
    c.signed-divisor.ensures z
    (ne_eqb c.args.y 0 c.requires)

pub nonzero_rem-rest : goal.nonzero_rem-rest
nonzero_rem-rest c = (
  divisor c.ranges.y c.signed-divisor.ensures c.requires,
  operands-fit Divide c.ranges.x c.signed.ensures
      c.ranges.y c.signed-divisor.ensures,
)

pub returns-then-rest-eq0 : goal.returns-then-rest-eq0
returns-then-rest-eq0 c = let d : After-signed = (goal.at.returns-then-rest-eq0 c).After-signed in
    c.signed_word.ensures ∙ divided d _ (rest-zero (first d) (second d) c.if-rest-eq0.true)

pub returns-then-divisor-lt0 : goal.returns-then-divisor-lt0
returns-then-divisor-lt0 c = let d : After-signed = (goal.at.returns-then-divisor-lt0 c).After-signed in
    c.signed_word-then-divisor-lt0.ensures ∙ divided d _
    (rest-same (first d) (second d) (c.if-rest-lt0.true ∙ sym c.if-divisor-lt0.true))

pub overflow_add-rest : goal.overflow_add-rest
overflow_add-rest c = sum_fits (first (goal.at.overflow_add-rest c).After-signed) (second
    (goal.at.overflow_add-rest c).After-signed)

pub returns-then-rest-lt0 : goal.returns-then-rest-lt0
returns-then-rest-lt0 c = let d : After-signed = (goal.at.returns-then-rest-lt0 c).After-signed in
    c.signed_word-then-rest-lt0.ensures ∙ divided d _
    (rest-other (first d) (second d) c.if-rest-eq0.false
    (c.if-rest-lt0.true ∙ sym (ap not c.if-divisor-lt0.false)))

pub overflow_add-rest-then-divisor-lt0-2 : goal.overflow_add-rest-then-divisor-lt0-2
overflow_add-rest-then-divisor-lt0-2 c = sum_fits (first (goal.at.overflow_add-rest-then-divisor-lt0-2 c).After-signed)
    (second (goal.at.overflow_add-rest-then-divisor-lt0-2 c).After-signed)

pub returns-then-divisor-lt0-2 : goal.returns-then-divisor-lt0-2
returns-then-divisor-lt0-2 c = let d : After-signed = (goal.at.returns-then-divisor-lt0-2 c).After-signed in
    c.signed_word-then-divisor-lt0-2.ensures ∙ divided d _
    (rest-other (first d) (second d) c.if-rest-eq0.false
    (c.if-rest-lt0.false ∙ sym (ap not c.if-divisor-lt0-2.true)))

pub returns : goal.returns
returns c = let d : After-signed = (goal.at.returns c).After-signed in
    c.signed_word-2.ensures ∙ divided d _
    (rest-same (first d) (second d) (c.if-rest-lt0.false ∙ sym c.if-divisor-lt0-2.false))
