-- `text::put_bytes` meets its contract: after i turns the bytes from i on are left to write.
use native.Mathlib.Omega.{arith}
use mathlib.Core.Path.{refl}
use lib.ListN.{drop_of_length-le}
use Rattle.text.proofs.Writing.{left-start, left-next, left_over, wrote_one}
use Rattle.words.proofs.Slices.{drop-one}
use Rattle.text.proofs.put_bytes.Goals as goal

pub loop-i-init : goal.loop-i-init
loop-i-init c = left-start refl (omega arith)

pub loop-i-preserved : goal.loop-i-preserved
loop-i-preserved c =
    left-next c.loop-i.invariant (drop-one c.args.s.now c.loop-i.i (omega arith)) (wrote_one c.set_byte.ensures (omega arith))

pub returns : goal.returns
returns c =
    left_over c.loop-i.invariant (drop_of_length-le c.args.s.now {i = c.loop-i.i} (omega arith)) (omega arith)
