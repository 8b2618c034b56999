-- `fast_flow::jumps::jump_h` meets its contract: the place at the distance is JUMP's.
use mathlib.Core.Path.{refl}
use native.Mathlib.Omega.{arith}
use Prim.Native.Nat.{◌+◌}
use Rattle.operand.specs.Operand.{signed, h as halfword}
use Rattle.opcode.specs.Table.{row_of}
use Rattle.state.proofs.Fitting.{fitting}
use Rattle.fast.specs.Fast.{spot, state_at}
use Rattle.fast_flow.proofs.Standing.{stands}
use Rattle.fast_flow.proofs.Jumping.{jump_goes}
use Rattle.fast_flow.proofs.jumps.jump_h.Goals as goal

pub returns : goal.returns
unfolding row_of
returns c =
    let go = c.go in
    let place-from = c.place_from-place in
    let extend-halfword = c.extend_halfword in
    let half = c.half in
    let if1 = c.if-code-here in
    let a = c.args in
    λ m s A q f k.
    let code = a.code.now in
    let pc = a.pc.now in
    let h = a.height.now in
    jump_goes code A q pc h m s (fitting A (state_at q (spot pc h m s)) f).height _ refl (pc + 3) _
    (stands code A pc 0xDB (signed halfword) _ 3 refl refl (omega arith) (omega arith) (omega (arith, if1.false)) k)
    go.result (spot go.new.pc go.new.height m s)
    (rw (place-from.ensures, extend-halfword.ensures, half.ensures) at (go.ensures m s))
