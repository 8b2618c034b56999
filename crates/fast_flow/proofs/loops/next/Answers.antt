-- `fast_flow::loops::next` meets its contract: the sum is a word, and the loop variable is live and plain.
use mathlib.Core.Path.{◌∙◌, refl, sym}
use native.Mathlib.Omega.{arith}
use Prim.Native.Nat.{◌+◌}
use Rattle.operand.specs.Operand.{none}
use Rattle.opcode.specs.Table.{row_of}
use Rattle.control.specs.Control.{next_sum}
use Rattle.fast_flow.proofs.Standing.{stands}
use Rattle.fast_flow.proofs.Looping.{next-rounds}
use Rattle.fast_flow.proofs.loops.next.Goals as goal

pub returns : goal.returns
unfolding row_of next_sum
returns c =
    let round = c.round in
    let signed-value = c.signed_value in
    let if3 = c.if-not-is_plain in
    let is_plain = c.is_plain in
    let if2 = c.if-q-a in
    let wide = c.wide-a in
    let if1 = c.if-h-lt5 in
    let a = c.args in
    let pre = c.requires in
    λ k.
    let code = a.code.now in
    let A = a.attributes in
    let q = a.q in
    let pc = a.pc.now in
    let h = a.height.now in
    let m = a.memory.now in
    let s = a.stack.now in
    round.ensures code A q refl
    (stands code A pc 0xE1 none _ 1 refl refl (omega arith) (omega arith) (omega (arith, pre.pc_in_bounds)) k)
    (next-rounds code A q pc h m s (pc + 1) wide.result
    if2.false (sym is_plain.ensures ∙ if3.false) _ if1.false (sym wide.ensures)
    (sym signed-value.ensures ∙ c.in-Ok.is))

pub bounds-memory-a : goal.bounds-memory-a
bounds-memory-a c =
    let if2 = c.if-q-a in
    let pre = c.requires in
    omega (arith, if2.false, pre.mp_in_bounds)
