-- `fast_frames::frames::call` meets its contract: the tests are those of CALL, and the entry is the halfword at its place.
use mathlib.Core.Path.{◌∙◌, sym}
use native.Mathlib.Omega.{arith}
use lib.ListN.{length-set}
use Rattle.registers.specs.Program.{program}
use Rattle.state.proofs.Fitting.{fitting}
use Rattle.fast_frames.specs.Frames.{framed}
use Rattle.fast_frames.proofs.Calling.{entry-bytes, call-done}
use Rattle.fast_frames.proofs.frames.call.Goals as goal

pub overflow_add-old : goal.overflow_add-old
overflow_add-old c =
    let a = c.args in
    let pre = c.requires in
    let F = fitting a.attributes
    (framed a.pc.now a.fp.now a.mp.now a.gp a.height a.calls.now a.memory.now a.stack.now)
    pre.stack_value in
    record { fits = omega (arith, F.within, F.room) }

pub overflow_cast-memory : goal.overflow_cast-memory
overflow_cast-memory c =
    let a = c.args in
    let pre = c.requires in
    let F = fitting a.attributes
    (framed a.pc.now a.fp.now a.mp.now a.gp a.height a.calls.now a.memory.now a.stack.now)
    pre.stack_value in
    record { fits = omega (arith, F.frame, F.within, F.room) }

pub returns : goal.returns
returns c =
    let if6 = c.if-code-entry in
    let pair = c.pair-entry in
    let if4 = c.if-memory-old in
    let if3 = c.if-calls-ge64 in
    let if2 = c.if-count-p in
    let if1 = c.if-p-eq0 in
    let a = c.args in
    let pre = c.requires in
    let F = fitting a.attributes
    (framed a.pc.now a.fp.now a.mp.now a.gp a.height a.calls.now a.memory.now a.stack.now)
    pre.stack_value in
    λ Ms R. call-done (program a.code.now a.attributes Ms) a.pc.now a.fp.now a.mp.now a.gp
    a.height a.calls.now a.memory.now a.stack.now F a.next a.p pre.decodes if1.false
    (omega (arith, pre.count_value, if2.false))
    if3.false (omega (arith, if4.false)) pair.result (pair.ensures ∙ sym (entry-bytes a.code.now a.p)) if6.false

pub bounds-memory-old-2 : goal.bounds-memory-old-2
bounds-memory-old-2 c = rw (length-set) (omega arith)
