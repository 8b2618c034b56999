-- `fast_external::byte` meets its contract: a byte of the code is below 256.
use mathlib.Core.Path.{refl}
use Rattle.fast_external.proofs.byte.Goals as goal

pub returns : goal.returns
returns c =
    let a = c.args in
    (refl, (c.type_inv.code a.at).fits)
