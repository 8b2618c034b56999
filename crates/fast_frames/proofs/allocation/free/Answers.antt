-- `fast_frames::allocation::free` meets its contract: the size is the top word, and MP stays at or above FP.
use mathlib.Core.Path.{refl}
use Prim.Native.Nat.{◌-◌}
use native.Mathlib.Omega.{arith}
use Rattle.registers.specs.Program.{program}
use Rattle.state.proofs.Fitting.{fitting}
use Rattle.fast_frames.specs.Frames.{framed}
use Rattle.fast_frames.proofs.Allocating.{free-done}
use Rattle.fast_frames.proofs.allocation.free.Goals as goal

pub offset_bounds-stack-h : goal.offset_bounds-stack-h
offset_bounds-stack-h c =
    let a = c.args in
    let pre = c.requires in
    let F = fitting a.attributes
    (framed a.pc.now a.fp a.mp.now a.gp a.height.now a.calls a.memory.now a.stack.now)
    pre.stack_value in
    record { fits = omega (arith, F.height, F.deep) }

pub bounds-stack-h : goal.bounds-stack-h
bounds-stack-h c =
    let if1 = c.if-h-lt1 in
    let a = c.args in
    let pre = c.requires in
    let F = fitting a.attributes
    (framed a.pc.now a.fp a.mp.now a.gp a.height.now a.calls a.memory.now a.stack.now)
    pre.stack_value in
    omega (arith, F.height, if1.false)

pub overflow_add-fp : goal.overflow_add-fp
overflow_add-fp c =
    let a = c.args in
    let pre = c.requires in
    let F = fitting a.attributes
    (framed a.pc.now a.fp a.mp.now a.gp a.height.now a.calls a.memory.now a.stack.now)
    pre.stack_value in
    record { fits = omega (arith, F.frame, F.within, F.room, (c.type_inv.stack (a.height.now - 1)).fits) }

pub returns : goal.returns
returns c =
    let if2 = c.if-old-fp in
    let if1 = c.if-h-lt1 in
    let a = c.args in
    let pre = c.requires in
    let F = fitting a.attributes
    (framed a.pc.now a.fp a.mp.now a.gp a.height.now a.calls a.memory.now a.stack.now)
    pre.stack_value in
    λ Ms R. free-done (program a.code.now a.attributes Ms) a.pc.now a.fp a.mp.now a.gp
    a.height.now a.calls a.memory.now a.stack.now F a.next _ pre.decodes
    (omega (arith, if1.false)) refl if2.false pre.next_in_bounds
