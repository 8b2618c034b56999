-- `fast_flow::jumps::jump_c_h` meets its contract: its distance is a halfword.
use mathlib.Core.Path.{refl}
use native.Mathlib.Omega.{arith}
use Rattle.operand.specs.Operand.{signed, h as halfword}
use Rattle.opcode.specs.Table.{row_of}
use Rattle.fast_flow.proofs.Standing.{stands}
use Rattle.fast_flow.proofs.jumps.jump_c_h.Goals as goal

pub returns : goal.returns
unfolding row_of
returns c =
    let jump-c = c.jump_c in
    let extend-halfword = c.extend_halfword in
    let half = c.half in
    let if1 = c.if-code-here in
    let a = c.args in
    λ m A q f k.
    let code = a.code.now in
    let pc = a.pc.now in
    let jumps = rw (extend-halfword.ensures, half.ensures) at (jump-c.ensures m) in
    jumps code A q refl
    (stands code A pc 0xDD (signed halfword) _ 3 refl refl (omega arith) (omega arith) (omega (arith, if1.false)) k)
