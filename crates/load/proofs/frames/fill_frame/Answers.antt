-- `frames::fill_frame` meets its contract: the frame has its size, and is as it will be up to the place reached. The measure is
-- what is left of it.
use mathlib.Core.Path.{◌≡◌, ◌∙◌, sym}
use native.Mathlib.Omega.{arith}
use lib.ListN.{length, length-set}
use Rattle.words.proofs.Series.{filled_next, filled-all}
use Rattle.load.specs.Load.{frame_words}
use Rattle.load.proofs.Framing.{frame-sized}
use Rattle.load.proofs.frames.fill_frame.Goals as goal

pub loop-i-preserved : goal.loop-i-preserved
loop-i-preserved c =
    let frame-word = c.frame_word in
    let loop-test = c.loop-i-test in
    let loop = c.loop-i in
    let a = c.args in
    let pre = c.requires in
    let words = frame_words a.k a.start a.parameters.now a.r.now in
    let size : length a.frame.now ≡ length words =
    pre.frame_len
    ∙ sym (frame-sized a.k a.start a.parameters.now a.r.now a.h pre.h_value pre.parameters_len_bound) in (
      length-set loop.frame loop.i frame-word.result ∙ loop.invariant.0,
      filled_next loop.frame words loop.i frame-word.result loop.invariant.1
          (omega (arith, loop.invariant.0, loop-test.true)) (loop.invariant.0 ∙ size) frame-word.ensures,
    )

pub returns : goal.returns
returns c =
    let loop-test = c.loop-i-test in
    let loop = c.loop-i in
    let a = c.args in
    let pre = c.requires in
    let words = frame_words a.k a.start a.parameters.now a.r.now in
    let size : length a.frame.now ≡ length words =
    pre.frame_len
    ∙ sym (frame-sized a.k a.start a.parameters.now a.r.now a.h pre.h_value pre.parameters_len_bound) in
    filled-all loop.frame words loop.i loop.invariant.1 (omega (arith, loop.invariant.0, loop-test.false))
    (loop.invariant.0 ∙ size)
