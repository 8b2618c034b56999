-- `fast_flow::jumps::jump_b` meets its contract: the place at the distance is JUMP's.
use mathlib.Core.Path.{refl}
use native.Mathlib.Omega.{arith}
use Prim.Native.Nat.{◌+◌}
use Rattle.operand.specs.Operand.{signed, b}
use Rattle.opcode.specs.Table.{row_of}
use Rattle.state.proofs.Fitting.{fitting}
use Rattle.fast.specs.Fast.{spot, state_at}
use Rattle.fast_flow.proofs.Standing.{stands}
use Rattle.fast_flow.proofs.Jumping.{jump_goes}
use Rattle.fast_flow.proofs.jumps.jump_b.Goals as goal

pub returns : goal.returns
unfolding row_of
returns c =
    let go = c.go in
    let place-from = c.place_from-place in
    let extend-byte = c.extend_byte in
    let a = c.args in
    let pre = c.requires in
    λ m s A q f k.
    let code = a.code.now in
    let pc = a.pc.now in
    let h = a.height.now in
    jump_goes code A q pc h m s (fitting A (state_at q (spot pc h m s)) f).height _ refl (pc + 2) _
    (stands code A pc 0xDA (signed b) _ 2 refl refl (omega arith) (omega arith) (omega (arith, pre.pc_in_bounds)) k)
    go.result (spot go.new.pc go.new.height m s)
    (rw (place-from.ensures, extend-byte.ensures) at (go.ensures m s))
