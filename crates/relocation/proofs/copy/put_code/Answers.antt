-- `copy::put_code` meets its contract: the stores of what is left give those of the whole code. The measure is what is left.
use mathlib.Core.Path.{◌≡◌, ◌∙◌, refl, sym}
use native.Mathlib.Numerals.{add-one}
use lib.ListN.{drop_of_length-le}
use lib.Seq.{sets}
use Rattle.words.proofs.Slices.{drop-one}
use Rattle.relocation.proofs.copy.put_code.Goals.{After-loop-i}
use Rattle.relocation.proofs.copy.put_code.Goals as goal

-- Nothing is left.
stored : (c : After-loop-i) →
    let a = c.args in
    c.loop-i.part ≡ sets a.part.now 0 a.code.now
stored c =
    let a = c.args in
    sym (c.loop-i.invariant ∙ rw (drop_of_length-le a.code.now {i = c.loop-i.i} c.loop-i-test.false))

pub loop-i-init : goal.loop-i-init
loop-i-init c = refl

pub loop-i-preserved : goal.loop-i-preserved
loop-i-preserved c =
    let set-byte = c.set_byte in
    let loop-test = c.loop-i-test in
    let loop = c.loop-i in
    let a = c.args in
    loop.invariant ∙ rw (drop-one a.code.now loop.i loop-test.true, set-byte.ensures, add-one loop.i)

pub returns : goal.returns
returns c = stored (goal.at.returns c).After-loop-i
