-- `fast_frames::frames::copy_words` meets its contract: one word, two, and after i turns the first i are stored.
use mathlib.Core.Path.{◌≡◌, refl}
use native.Mathlib.Omega.{arith}
use lib.ListN.{length-set}
use Rattle.fast_frames.proofs.Calling.{copied-one, copied-two, copied_next}
use Rattle.fast_frames.proofs.frames.copy_words.Goals as goal

pub loop-i-preserved : goal.loop-i-preserved
loop-i-preserved c =
    let loop-test = c.loop-i-test in
    let loop = c.loop-i in
    let a = c.args in
    let pre = c.requires in (
      omega arith,
      (
        rw (length-set) loop.invariant.1.0,
        λ m e. rw (loop.invariant.1.1 m e)
            (copied_next m a.stack.now a.a a.low loop.i (omega (arith, pre.n_in_bounds_2, loop-test.true))),
      ),
    )

pub returns : goal.returns
returns c =
    let loop-test = c.loop-i-test in
    let loop = c.loop-i in
    let if2 = c.if-n-eq1 in
    let if1 = c.if-n-eq0 in
    let a = c.args in
    let pre = c.requires in
    let e : loop.i ≡ a.n = omega (arith, loop.invariant.0, loop-test.false) in
    rw (← e) (loop.invariant.1.1 a.memory.now
    (copied-two a.memory.now a.stack.now a.a a.low (omega (arith, pre.n_in_bounds_2, if1.false, if2.false))))

pub returns-then-n-eq1 : goal.returns-then-n-eq1
returns-then-n-eq1 c =
    let if2 = c.if-n-eq1 in
    let if1 = c.if-n-eq0 in
    let a = c.args in
    let pre = c.requires in
    rw if2.true (copied-one a.memory.now a.stack.now a.a a.low (omega (arith, pre.n_in_bounds_2, if1.false)))
