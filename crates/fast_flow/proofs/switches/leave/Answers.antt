-- `fast_flow::switches::leave` meets its contract: the place is the label.
use mathlib.Core.Path.{refl}
use native.Mathlib.Omega.{arith}
use Prim.Native.Nat.{◌+◌}
use Rattle.operand.specs.Operand.{none}
use Rattle.opcode.specs.Table.{row_of}
use Rattle.fast.specs.Fast.{spot}
use Rattle.fast_flow.proofs.Standing.{stands}
use Rattle.fast_flow.proofs.Jumping.{leave-goes}
use Rattle.fast_flow.proofs.switches.leave.Goals as goal

pub returns : goal.returns
unfolding row_of
returns c =
    let go = c.go in
    let wide = c.wide in
    let if1 = c.if-h-lt1 in
    let a = c.args in
    let pre = c.requires in
    λ m A q f k.
    let code = a.code.now in
    let pc = a.pc.now in
    let s = a.stack.now in
    leave-goes code A q pc a.height.now m s pre.height_in_bounds _ refl (pc + 1)
    (stands code A pc 0xE4 none _ 1 refl refl (omega arith) (omega arith) (omega (arith, pre.pc_in_bounds)) k) if1.false
    go.result (spot go.new.pc go.new.height m s) (rw wide.ensures at (go.ensures m s))
