-- `fast_frames::frames::rtn` meets its contract: the links of an active call lie below its frame.
use native.Mathlib.Omega.{arith}
use Rattle.registers.specs.Program.{program}
use Rattle.state.proofs.Fitting.{fitting}
use Rattle.fast_frames.specs.Frames.{framed}
use Rattle.fast_frames.proofs.Calling.{rtn-done, linked}
use Rattle.fast_frames.proofs.frames.rtn.Goals as goal

pub overflow_sub-place : goal.overflow_sub-place
overflow_sub-place c =
    let if1 = c.if-calls-eq0 in
    let a = c.args in
    let pre = c.requires in
    let F = fitting a.attributes
    (framed a.pc.now a.fp.now a.mp.now a.gp a.height a.calls.now a.memory.now a.stack.now)
    pre.stack_value in
    omega (
      arith,
      linked a.attributes a.pc.now a.fp.now a.mp.now a.gp
          a.height a.calls.now a.memory.now a.stack.now F if1.false,
    )

pub offset_bounds-memory-frame : goal.offset_bounds-memory-frame
offset_bounds-memory-frame c =
    let a = c.args in
    let pre = c.requires in
    let F = fitting a.attributes
    (framed a.pc.now a.fp.now a.mp.now a.gp a.height a.calls.now a.memory.now a.stack.now)
    pre.stack_value in
    record { fits = omega (arith, F.frame, F.within, F.room) }

pub bounds-memory-frame : goal.bounds-memory-frame
bounds-memory-frame c =
    let if1 = c.if-calls-eq0 in
    let a = c.args in
    let pre = c.requires in
    let F = fitting a.attributes
    (framed a.pc.now a.fp.now a.mp.now a.gp a.height a.calls.now a.memory.now a.stack.now)
    pre.stack_value in
    omega (
      arith,
      linked a.attributes a.pc.now a.fp.now a.mp.now a.gp
          a.height a.calls.now a.memory.now a.stack.now F if1.false,
      F.frame,
      F.within,
    )

pub overflow_sub-mp : goal.overflow_sub-mp
overflow_sub-mp c =
    let if1 = c.if-calls-eq0 in
    let a = c.args in
    let pre = c.requires in
    let F = fitting a.attributes
    (framed a.pc.now a.fp.now a.mp.now a.gp a.height a.calls.now a.memory.now a.stack.now)
    pre.stack_value in
    omega (
      arith,
      linked a.attributes a.pc.now a.fp.now a.mp.now a.gp
          a.height a.calls.now a.memory.now a.stack.now F if1.false,
    )

pub overflow_sub-fp : goal.overflow_sub-fp
overflow_sub-fp c =
    let if1 = c.if-calls-eq0 in
    let a = c.args in
    let pre = c.requires in
    let F = fitting a.attributes
    (framed a.pc.now a.fp.now a.mp.now a.gp a.height a.calls.now a.memory.now a.stack.now)
    pre.stack_value in
    omega (
      arith,
      linked a.attributes a.pc.now a.fp.now a.mp.now a.gp
          a.height a.calls.now a.memory.now a.stack.now F if1.false,
    )

pub returns : goal.returns
returns c =
    let if3 = c.if-place-eq0 in
    let if2 = c.if-code-place in
    let if1 = c.if-calls-eq0 in
    let a = c.args in
    let pre = c.requires in
    let F = fitting a.attributes
    (framed a.pc.now a.fp.now a.mp.now a.gp a.height a.calls.now a.memory.now a.stack.now)
    pre.stack_value in
    λ Ms R. rtn-done (program a.code.now a.attributes Ms) a.pc.now a.fp.now a.mp.now a.gp
    a.height a.calls.now a.memory.now a.stack.now F a.next pre.decodes if1.false pre.code_len_bound if2.false
    if3.false
