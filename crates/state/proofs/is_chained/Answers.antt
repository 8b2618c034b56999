-- `state::is_chained` meets its contract: the walk goes down the chain of frames until one is not low enough. The measure is
-- what is left of the calls.
use mathlib.Core.Path.{sym}
use native.Mathlib.Omega.{arith}
use Rattle.registers.proofs.Links.{link-range}
use Rattle.state.proofs.Chains.{followed-start, followed-break, followed-next, followed-end}
use Rattle.state.proofs.is_chained.Goals as goal

pub loop-init : goal.loop-init
loop-init c =
    let a = c.args in
    followed-start a.memory.now a.start a.fp a.calls

pub returns-then-frame-lt2 : goal.returns-then-frame-lt2
returns-then-frame-lt2 c =
    let if1 = c.if-frame-lt2 in
    let loop-test = c.loop-test in
    let loop = c.loop in
    let a = c.args in
    sym (followed-break a.memory.now a.start a.fp a.calls loop.frame loop.counter loop.invariant
    loop-test.true (omega (arith, if1.true, link-range a.memory.now loop.frame)))

pub returns-then-frame-saved : goal.returns-then-frame-saved
returns-then-frame-saved c =
    let if2 = c.if-frame-saved in
    let link-words = c.link_words in
    let word_at = c.word_at-saved in
    let loop-test = c.loop-test in
    let loop = c.loop in
    let a = c.args in
    sym (followed-break a.memory.now a.start a.fp a.calls loop.frame loop.counter loop.invariant
    loop-test.true (omega (arith, word_at.ensures, link-words.ensures, if2.true)))

pub loop-preserved : goal.loop-preserved
loop-preserved c =
    let if2 = c.if-frame-saved in
    let link-words = c.link_words in
    let word_at = c.word_at-saved in
    let loop-test = c.loop-test in
    let loop = c.loop in
    let a = c.args in
    let a = a in
    let l = loop in
    rw word_at.ensures
    (followed-next a.memory.now a.start a.fp a.calls l.frame l.counter l.invariant loop-test.true
    (omega (arith, word_at.ensures, link-words.ensures, if2.false)))

pub returns : goal.returns
returns c =
    let loop-test = c.loop-test in
    let loop = c.loop in
    let a = c.args in
    sym (followed-end a.memory.now a.start a.fp a.calls loop.frame loop.counter loop.invariant loop-test.false)

pub overflow_add-saved : goal.overflow_add-saved
overflow_add-saved c =
    let link-words = c.link_words in
    let loop = c.loop in
    let a = c.args in
    record { fits = omega (arith, link-words.ensures, link-range a.memory.now loop.frame) }
