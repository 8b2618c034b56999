-- `step::copy_words` meets its contract: after i turns the first i words are stored.
use mathlib.Core.Path.{refl, ◌∙◌}
use native.Mathlib.Omega.{arith}
use lib.Seq.{take_all}
use Rattle.words.proofs.Sets.{sets-one-more}
use Rattle.step.proofs.copy_words.Goals as goal

pub loop-i-init : goal.loop-i-init
loop-i-init c = (refl, omega arith, refl)

pub loop-i-preserved : goal.loop-i-preserved
loop-i-preserved c =
    let set_word = c.set_word in
    let loop = c.loop-i in
    let a = c.args in (
      loop.invariant.0,
      omega (arith, loop.invariant.0),
      set_word.ensures ∙ (rw loop.invariant.2
          (sets-one-more a.dst.now a.src.now loop.i (omega (arith, loop.invariant.0)))),
    )

pub returns : goal.returns
returns c =
    let loop = c.loop-i in
    let a = c.args in
    loop.invariant.2 ∙ rw (take_all loop.i a.src.now (omega (arith, loop.invariant.0)))
