-- `state::links_based` meets its contract: the walk goes down the chain of frames until one is not so. The measure is what is
-- left of the
-- calls.
use mathlib.Core.Path.{◌∙◌, sym}
use native.Mathlib.Omega.{arith}
use Rattle.registers.proofs.Links.{link-range}
use Rattle.state.proofs.Chains.{looking-start, looking-lower, looking-break, looking-next, looking-end}
use Rattle.state.proofs.links_based.Goals as goal

pub loop-init : goal.loop-init
loop-init c =
    let a = c.args in
    let pre = c.requires in
    looking-start a.table.now a.memory.now a.start a.fp a.calls pre.calls_value

pub link_based-requires : goal.link_based-requires
link_based-requires c =
    let loop-test = c.loop-test in
    let loop = c.loop in
    let a = c.args in
    let pre = c.requires in
    let a = a in
    let l = loop in
    let lower = looking-lower a.table.now a.memory.now a.start a.fp a.calls l.frame l.counter l.invariant loop-test.true in
    record {
      table_len_bound = pre.table_len_bound;
      frame_bound = omega (arith, lower);
    }

pub returns-then-not-link_based : goal.returns-then-not-link_based
returns-then-not-link_based c =
    let if1 = c.if-not-link_based in
    let link-based = c.link_based in
    let loop-test = c.loop-test in
    let loop = c.loop in
    let a = c.args in
    λ copy.
    let a = a in
    let l = loop in
    sym (looking-break a.table.now a.memory.now a.start a.fp a.calls l.frame l.counter l.invariant loop-test.true copy
    (sym (link-based.ensures copy) ∙ if1.true))

pub overflow_sub-frame : goal.overflow_sub-frame
overflow_sub-frame c =
    let loop-test = c.loop-test in
    let loop = c.loop in
    let a = c.args in
    let a = a in
    let l = loop in
    let lower = looking-lower a.table.now a.memory.now a.start a.fp a.calls l.frame l.counter l.invariant loop-test.true in
    omega (arith, lower, link-range a.memory.now l.frame)

pub loop-preserved : goal.loop-preserved
loop-preserved c =
    let word_at = c.word_at-frame in
    let if1 = c.if-not-link_based in
    let link-based = c.link_based in
    let loop-test = c.loop-test in
    let loop = c.loop in
    let a = c.args in
    let a = a in
    let l = loop in
    rw word_at.ensures
    (looking-next a.table.now a.memory.now a.start a.fp a.calls l.frame l.counter l.invariant loop-test.true
    (λ copy. sym (link-based.ensures copy) ∙ if1.false))

pub returns : goal.returns
returns c =
    let loop-test = c.loop-test in
    let loop = c.loop in
    let a = c.args in
    λ copy.
    let a = a in
    let l = loop in
    sym (looking-end a.table.now a.memory.now a.start a.fp a.calls l.frame l.counter l.invariant loop-test.false copy)
