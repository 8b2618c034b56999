-- `crate::access::is_above_zero` meets its contract: the word reads back as the signed number.
use mir.Facts.{of_z-to_z}
use Rattle.registers.proofs.Signs.{sign}
use Rattle.registers.proofs.access.is_above_zero.Goals as goal

pub returns : goal.returns
returns c = rw (c.cast_signed.ensures, of_z-to_z c.ranges.x) (sign c.args.x)
