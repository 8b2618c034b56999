-- `fast_flow::switches::switch` meets its contract: the branch of the selector, or the ELSE part.
use mathlib.Core.Path.{◌≡◌, refl, sym}
use native.Mathlib.Omega.{arith}
use Prim.Native.Nat.{◌+◌, ◌*◌}
use Rattle.words.specs.Bytes.{halfword_at}
use Rattle.operand.specs.Operand.{table}
use Rattle.opcode.specs.Table.{row_of}
use Rattle.fast.specs.Fast.{spot}
use Rattle.fast_flow.proofs.Standing.{stands}
use Rattle.fast_flow.proofs.Switching.{switch-goes, switch-else}
use Rattle.fast_flow.proofs.switches.switch.Goals as goal

pub returns-then-n-x : goal.returns-then-n-x
unfolding row_of
returns-then-n-x c =
    let branch = c.branch-code in
    let half2 = c.half-then-n-x in
    let if4 = c.if-n-x in
    let wide = c.wide-x in
    let if3 = c.if-code-here-2 in
    let wide-half = c.wide_half-n in
    let half = c.half in
    let if1 = c.if-h-lt1 in
    let a = c.args in
    let pre = c.requires in
    λ m A q f k.
    let code = a.code.now in
    let pc = a.pc.now in
    let n = halfword_at code (pc + 1) in
    let is : wide-half.result ≡ n = rw wide-half.ensures.0 half.ensures in
    switch-else code A q pc a.height.now m a.stack.now pre.height_in_bounds pre.code_len_bound if1.false (pc + (9 + 2 * n)) n
    (stands code A pc 0xE2 (table 9 2) _ (9 + 2 * n) refl refl refl (omega arith) (omega (arith, is, if3.false)) k)
    (omega (arith, is, wide.ensures, if4.true)) branch.result
    (spot branch.new.pc branch.new.height m branch.new.stack)
    (rw half2.ensures at (branch.ensures m))

pub returns : goal.returns
unfolding row_of
returns c =
    let branch2 = c.branch-code-2 in
    let half3 = c.half-2 in
    let if4 = c.if-n-x in
    let wide = c.wide-x in
    let if3 = c.if-code-here-2 in
    let wide-half = c.wide_half-n in
    let half = c.half in
    let if1 = c.if-h-lt1 in
    let a = c.args in
    let pre = c.requires in
    λ m A q f k.
    let code = a.code.now in
    let pc = a.pc.now in
    let n = halfword_at code (pc + 1) in
    let is : wide-half.result ≡ n = rw wide-half.ensures.0 half.ensures in
    switch-goes code A q pc a.height.now m a.stack.now pre.height_in_bounds pre.code_len_bound if1.false (pc + (9 + 2 * n)) n
    wide.result
    (stands code A pc 0xE2 (table 9 2) _ (9 + 2 * n) refl refl refl (omega arith) (omega (arith, is, if3.false)) k)
    (sym wide.ensures) (omega (arith, is, if4.false)) branch2.result
    (spot branch2.new.pc branch2.new.height m branch2.new.stack)
    (rw half3.ensures at (branch2.ensures m))
