-- `fast_flow::switches::switch_x` meets its contract: the first range that holds the selector, or the ELSE part.
use mathlib.Core.Path.{◌≡◌, refl}
use native.Mathlib.Omega.{arith}
use Prim.Native.Nat.{◌+◌, ◌*◌}
use Rattle.words.specs.Bytes.{halfword_at}
use Rattle.operand.specs.Operand.{table}
use Rattle.opcode.specs.Table.{row_of}
use Rattle.fast.specs.Fast.{spot}
use Rattle.fast_flow.proofs.Standing.{stands}
use Rattle.fast_flow.proofs.Switching.{switch-x-goes, switch-x-else}
use Rattle.fast_flow.proofs.switches.switch_x.Goals as goal

pub returns-then-distance-eq0 : goal.returns-then-distance-eq0
unfolding row_of
returns-then-distance-eq0 c =
    let branch = c.branch-code in
    let half2 = c.half in
    let if4 = c.if-distance-eq0 in
    let search-distance = c.search_distance-distance in
    let if3 = c.if-code-here-2 in
    let wide-half = c.wide_half in
    let half = c.half-n in
    let if1 = c.if-h-lt1 in
    let a = c.args in
    let pre = c.requires in
    λ m A q f k.
    let code = a.code.now in
    let pc = a.pc.now in
    let n = halfword_at code (pc + 1) in
    let is : wide-half.result ≡ n = rw wide-half.ensures.0 half.ensures in
    switch-x-else code A q pc a.height.now m a.stack.now pre.height_in_bounds pre.code_len_bound if1.false (pc + (7 + 10 * n)) n
    search-distance.result
    (stands code A pc 0xE3 (table 7 10) _ (7 + 10 * n) refl refl refl (omega arith) (omega (arith, is, if3.false)) k)
    (rw half.ensures at search-distance.ensures) if4.true branch.result
    (spot branch.new.pc branch.new.height m branch.new.stack)
    (rw half2.ensures at (branch.ensures m))

pub returns : goal.returns
unfolding row_of
returns c =
    let branch2 = c.branch-code-2 in
    let if4 = c.if-distance-eq0 in
    let search-distance = c.search_distance-distance in
    let if3 = c.if-code-here-2 in
    let wide-half = c.wide_half in
    let half = c.half-n in
    let if1 = c.if-h-lt1 in
    let a = c.args in
    let pre = c.requires in
    λ m A q f k.
    let code = a.code.now in
    let pc = a.pc.now in
    let n = halfword_at code (pc + 1) in
    let is : wide-half.result ≡ n = rw wide-half.ensures.0 half.ensures in
    switch-x-goes code A q pc a.height.now m a.stack.now pre.height_in_bounds pre.code_len_bound if1.false (pc + (7 + 10 * n)) n
    search-distance.result
    (stands code A pc 0xE3 (table 7 10) _ (7 + 10 * n) refl refl refl (omega arith) (omega (arith, is, if3.false)) k)
    (rw half.ensures at search-distance.ensures) if4.false branch2.result
    (spot branch2.new.pc branch2.new.height m branch2.new.stack) (branch2.ensures m)
