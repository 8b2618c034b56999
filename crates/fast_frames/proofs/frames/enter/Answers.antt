-- `fast_frames::frames::enter` meets its contract: the words are on the stack, and memory has room for them and the locals.
use native.Mathlib.Omega.{arith}
use Rattle.registers.specs.Program.{program}
use Rattle.state.proofs.Fitting.{fitting}
use Rattle.fast_frames.specs.Frames.{framed}
use Rattle.fast_frames.proofs.Calling.{enter-done}
use Rattle.fast_frames.proofs.frames.enter.Goals as goal

pub overflow_add-top : goal.overflow_add-top
overflow_add-top c =
    let a = c.args in
    let pre = c.requires in
    let F = fitting a.attributes
    (framed a.pc.now a.fp a.mp.now a.gp a.height.now a.calls a.memory.now a.stack.now)
    pre.stack_value in
    record { fits = omega (arith, F.within, F.room, pre.parameters_bound) }

pub overflow_add-top-2 : goal.overflow_add-top-2
overflow_add-top-2 c =
    let a = c.args in
    let pre = c.requires in
    let F = fitting a.attributes
    (framed a.pc.now a.fp a.mp.now a.gp a.height.now a.calls a.memory.now a.stack.now)
    pre.stack_value in
    record { fits = omega (arith, F.within, F.room, pre.parameters_bound, pre.locals_bound) }

pub copy_words-requires : goal.copy_words-requires
copy_words-requires c =
    let if2 = c.if-memory-top in
    let if1 = c.if-h-parameters in
    let a = c.args in
    let pre = c.requires in
    let F = fitting a.attributes
    (framed a.pc.now a.fp a.mp.now a.gp a.height.now a.calls a.memory.now a.stack.now)
    pre.stack_value in
    record {
      n_in_bounds = omega (arith, if2.false);
      n_in_bounds_2 = omega (arith, if1.false, F.height);
    }

pub returns : goal.returns
returns c =
    let copy-words = c.copy_words in
    let if2 = c.if-memory-top in
    let if1 = c.if-h-parameters in
    let a = c.args in
    let pre = c.requires in
    let F = fitting a.attributes
    (framed a.pc.now a.fp a.mp.now a.gp a.height.now a.calls a.memory.now a.stack.now)
    pre.stack_value in
    λ Ms R. rw copy-words.ensures
    (enter-done (program a.code.now a.attributes Ms) a.pc.now a.fp a.mp.now a.gp
    a.height.now a.calls a.memory.now a.stack.now F a.next a.parameters a.locals
    pre.decodes if1.false if2.false pre.next_in_bounds)
