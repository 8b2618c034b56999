-- `fast::leaf::is_link` meets its contract: the walk goes down until the address lies at or above a frame.
use mathlib.Core.Path.{◌∙◌, sym}
use native.Mathlib.Omega.{arith}
use borrow.Author.Tests.{leb-true, leb-false}
use Rattle.registers.proofs.Links.{link-range}
use Rattle.fast.proofs.Walking.{walking_start, walking-above, walking-lower, walking-near, walking-next}
use Rattle.fast.proofs.leaf.is_link.Goals as goal

pub loop-frame-init : goal.loop-frame-init
loop-frame-init c =
    let a = c.args in
    let pre = c.requires in
    walking_start a.memory.now a.start a.fp a.calls a.a pre.calls_value pre.fp_in_bounds

pub returns-then-is_near : goal.returns-then-is_near
returns-then-is_near c =
    let if1 = c.if-is_near in
    let is-near = c.is_near in
    let loop-test = c.loop-frame-test in
    let loop = c.loop-frame in
    let a = c.args in
    let pre = c.requires in
    walking-near a.memory.now a.start a.fp a.calls a.a
    loop.frame pre.start_le_a loop.invariant loop-test.true (leb-true _ _ (sym is-near.ensures ∙ if1.true))

pub overflow_sub-frame : goal.overflow_sub-frame
overflow_sub-frame c =
    let loop-test = c.loop-frame-test in
    let loop = c.loop-frame in
    let a = c.args in
    let pre = c.requires in
    let lower = walking-lower a.memory.now a.start a.fp a.calls a.a
    loop.frame pre.start_le_a loop.invariant loop-test.true in
    omega (arith, lower, link-range a.memory.now loop.frame)

pub bounds-memory-frame : goal.bounds-memory-frame
bounds-memory-frame c =
    let loop-test = c.loop-frame-test in
    let loop = c.loop-frame in
    let a = c.args in
    let pre = c.requires in
    let lower = walking-lower a.memory.now a.start a.fp a.calls a.a
    loop.frame pre.start_le_a loop.invariant loop-test.true in
    omega (arith, loop.invariant.within, lower, link-range a.memory.now loop.frame)

pub loop-frame-smaller : goal.loop-frame-smaller
loop-frame-smaller c =
    let loop-test = c.loop-frame-test in
    let loop = c.loop-frame in
    let a = c.args in
    let pre = c.requires in
    let lower = walking-lower a.memory.now a.start a.fp a.calls a.a
    loop.frame pre.start_le_a loop.invariant loop-test.true in
    omega (arith, lower, link-range a.memory.now loop.frame)

pub loop-frame-preserved : goal.loop-frame-preserved
loop-frame-preserved c =
    let if1 = c.if-is_near in
    let is-near = c.is_near in
    let loop-test = c.loop-frame-test in
    let loop = c.loop-frame in
    let a = c.args in
    let pre = c.requires in
    walking-next a.memory.now a.start a.fp a.calls a.a
    loop.frame pre.start_le_a loop.invariant loop-test.true (leb-false _ _ (sym is-near.ensures ∙ if1.false))

pub returns : goal.returns
returns c =
    let loop-test = c.loop-frame-test in
    let loop = c.loop-frame in
    let a = c.args in
    let pre = c.requires in
    walking-above a.memory.now a.start a.fp a.calls a.a
    loop.frame pre.start_le_a loop.invariant loop-test.false
