-- `operate::arithmetic::negated_value` meets its contract: 0 less the number is its negation.
use mathlib.Core.Path.{◌∙◌, ap}
use lib.IntN.{pos, +ℤ_idl}
use mir.Facts.{to_z-of_z, sfits_lit}
use Rattle.opcode.specs.declared.instruction.Arithmetic.TheVariants.{Subtract}
use Rattle.operate.specs.Arithmetic.{negated_value}
use Rattle.operate.specs.Value.{signed_word}
use Rattle.operate.proofs.Operands.{read, read_fits}
use Rattle.operate.proofs.Sizes.{result_fits}
use Rattle.operate.proofs.arithmetic.negated_value.Goals.{After-signed}
use Rattle.operate.proofs.arithmetic.negated_value.Goals as goal

pub overflow_sub-signed : goal.overflow_sub-signed
overflow_sub-signed c = result_fits Subtract (pos _) _ (sfits_lit tt) (read_fits c.ranges.x c.signed.ensures)

pub returns : goal.returns
unfolding negated_value
returns c =
    let signed = c.signed in
    let fits = c.ranges in
    c.signed_word.ensures ∙ rw (to_z-of_z (overflow_sub-signed (goal.at.returns c).After-signed), read fits.x signed.ensures)
    (ap signed_word (+ℤ_idl _))
