-- `text::width_of` meets its contract: the logarithm and one more.
use native.Mathlib.Omega.{arith}
use Rattle.text.proofs.Writing.{width-is}
use Rattle.text.proofs.width_of.Goals as goal

pub returns : goal.returns
returns c =
    let log = c.ilog10.ensures in
    width-is c.args.n _ (omega arith) (omega (arith, log.power_le)) (omega (arith, log.next_power_gt))
