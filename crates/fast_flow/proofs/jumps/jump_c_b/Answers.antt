-- `fast_flow::jumps::jump_c_b` meets its contract: its distance is a byte.
use mathlib.Core.Path.{refl}
use native.Mathlib.Omega.{arith}
use Rattle.operand.specs.Operand.{signed, b}
use Rattle.opcode.specs.Table.{row_of}
use Rattle.fast_flow.proofs.Standing.{stands}
use Rattle.fast_flow.proofs.jumps.jump_c_b.Goals as goal

pub returns : goal.returns
unfolding row_of
returns c =
    let jump-c = c.jump_c in
    let extend-byte = c.extend_byte in
    let a = c.args in
    let pre = c.requires in
    λ m A q f k.
    let code = a.code.now in
    let pc = a.pc.now in
    let jumps = rw extend-byte.ensures at (jump-c.ensures m) in
    jumps code A q refl
    (stands code A pc 0xDC (signed b) _ 2 refl refl (omega arith) (omega arith) (omega (arith, pre.pc_in_bounds)) k)
