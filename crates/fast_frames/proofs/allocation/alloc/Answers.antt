-- `fast_frames::allocation::alloc` meets its contract: the size is the top word, and its place takes the old MP.
use mathlib.Core.Path.{refl}
use Prim.Native.Nat.{◌-◌}
use native.Mathlib.Omega.{arith}
use Rattle.registers.specs.Program.{program}
use Rattle.state.proofs.Fitting.{fitting}
use Rattle.fast_frames.specs.Frames.{framed}
use Rattle.fast_frames.proofs.Allocating.{alloc-done}
use Rattle.fast_frames.proofs.allocation.alloc.Goals as goal

pub offset_bounds-stack-height : goal.offset_bounds-stack-height
offset_bounds-stack-height c =
    let a = c.args in
    let pre = c.requires in
    let F = fitting a.attributes
    (framed a.pc.now a.fp a.mp.now a.gp a.height a.calls a.memory.now a.stack.now)
    pre.stack_value in
    record { fits = omega (arith, F.height, F.deep) }

pub bounds-stack-height : goal.bounds-stack-height
bounds-stack-height c =
    let if1 = c.if-height-lt1 in
    let a = c.args in
    let pre = c.requires in
    let F = fitting a.attributes
    (framed a.pc.now a.fp a.mp.now a.gp a.height a.calls a.memory.now a.stack.now)
    pre.stack_value in
    omega (arith, F.height, if1.false)

pub overflow_add-top : goal.overflow_add-top
overflow_add-top c =
    let a = c.args in
    let pre = c.requires in
    let F = fitting a.attributes
    (framed a.pc.now a.fp a.mp.now a.gp a.height a.calls a.memory.now a.stack.now)
    pre.stack_value in
    record { fits = omega (arith, F.within, F.room, (c.type_inv.stack (a.height - 1)).fits) }

pub overflow_cast-stack : goal.overflow_cast-stack
overflow_cast-stack c =
    let a = c.args in
    let pre = c.requires in
    let F = fitting a.attributes
    (framed a.pc.now a.fp a.mp.now a.gp a.height a.calls a.memory.now a.stack.now)
    pre.stack_value in
    record { fits = omega (arith, F.within, F.room) }

pub offset_bounds-stack-height-2 : goal.offset_bounds-stack-height-2
offset_bounds-stack-height-2 c =
    let a = c.args in
    let pre = c.requires in
    let F = fitting a.attributes
    (framed a.pc.now a.fp a.mp.now a.gp a.height a.calls a.memory.now a.stack.now)
    pre.stack_value in
    record { fits = omega (arith, F.height, F.deep) }

pub bounds-stack-height-2 : goal.bounds-stack-height-2
bounds-stack-height-2 c =
    let if1 = c.if-height-lt1 in
    let a = c.args in
    let pre = c.requires in
    let F = fitting a.attributes
    (framed a.pc.now a.fp a.mp.now a.gp a.height a.calls a.memory.now a.stack.now)
    pre.stack_value in
    omega (arith, F.height, if1.false)

pub returns : goal.returns
returns c =
    let if2 = c.if-memory-top in
    let if1 = c.if-height-lt1 in
    let a = c.args in
    let pre = c.requires in
    let F = fitting a.attributes
    (framed a.pc.now a.fp a.mp.now a.gp a.height a.calls a.memory.now a.stack.now)
    pre.stack_value in
    λ Ms R. alloc-done (program a.code.now a.attributes Ms) a.pc.now a.fp a.mp.now a.gp
    a.height a.calls a.memory.now a.stack.now F a.next _ pre.decodes (omega (arith, if1.false)) refl
    if2.false pre.next_in_bounds
