-- `crate::access::is_link` meets its contract: the walk goes down the chain of frames until the address lies at or above one.
use mathlib.Core.Path.{sym}
use native.Mathlib.Omega.{arith}
use Rattle.registers.proofs.Links.{link-range, walked_start, walked-above, walked_near, walked_next, walked_end}
use Rattle.registers.proofs.access.is_link.Goals as goal

pub loop-init : goal.loop-init
loop-init c =
    let a = c.args in
    let pre = c.requires in
    walked_start a.m.now a.start a.fp a.calls a.a (pre)

pub returns-then-frame-a : goal.returns-then-frame-a
returns-then-frame-a c =
    let if1 = c.if-frame-a in
    let loop = c.loop in
    let a = c.args in
    sym (walked-above a.m.now a.start a.fp a.calls a.a loop.frame loop.counter loop.invariant if1.true)

pub returns-then-frame-a-2 : goal.returns-then-frame-a-2
returns-then-frame-a-2 c =
    let if2 = c.if-frame-a-2 in
    let link-words = c.link_words in
    let if1 = c.if-frame-a in
    let loop-test = c.loop-test in
    let loop = c.loop in
    let a = c.args in
    sym
    (walked_near a.m.now a.start a.fp a.calls a.a loop.frame loop.counter loop.invariant loop-test.true
    if1.false (omega (arith, link-words.ensures, if2.true, if1.false)))

pub overflow_sub-frame-in-loop : goal.overflow_sub-frame-in-loop
overflow_sub-frame-in-loop c =
    let if2 = c.if-frame-a-2 in
    let link-words = c.link_words in
    let frame = c.loop.frame in
    let m = c.args.m.now in
    omega (arith, link-words.ensures, if2.false, link-range m frame)

pub loop-preserved : goal.loop-preserved
loop-preserved c =
    let word_at = c.word_at-frame in
    let if2 = c.if-frame-a-2 in
    let link-words = c.link_words in
    let if1 = c.if-frame-a in
    let loop-test = c.loop-test in
    let loop = c.loop in
    let a = c.args in
    rw word_at.ensures
    (walked_next a.m.now a.start a.fp a.calls a.a loop.frame loop.counter loop.invariant loop-test.true
    (omega (arith, link-words.ensures, if2.false, if1.false)))

pub returns : goal.returns
returns c =
    let loop-test = c.loop-test in
    let loop = c.loop in
    let a = c.args in
    sym
    (walked_end a.m.now a.start a.fp a.calls a.a loop.frame loop.counter loop.invariant loop-test.false)
