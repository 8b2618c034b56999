-- `fast_flow::loops::iter` meets its contract: past the loop, or into it where its variable is live and plain.
use mathlib.Core.Path.{◌∙◌, refl, sym}
use native.Mathlib.Omega.{arith}
use Prim.Native.Nat.{◌+◌}
use Rattle.operand.specs.Operand.{unsigned, h as halfword}
use Rattle.opcode.specs.Table.{row_of}
use Rattle.fast.specs.Fast.{spot}
use Rattle.fast_flow.proofs.Standing.{stands}
use Rattle.fast_flow.proofs.Looping.{iter-skips, iter-starts}
use Rattle.fast_flow.proofs.loops.iter.Goals as goal

pub returns-then-is_beyond : goal.returns-then-is_beyond
unfolding row_of
returns-then-is_beyond c =
    let go = c.go in
    let place-from = c.place_from-place in
    let half = c.half in
    let if3 = c.if-is_beyond in
    let is-beyond = c.is_beyond in
    let if2 = c.if-h-lt4 in
    let if1 = c.if-code-here in
    let a = c.args in
    let pre = c.requires in
    λ k.
    let code = a.code.now in
    let pc = a.pc.now in
    let m = a.memory.now in
    let s = a.stack.now in
    iter-skips code a.attributes a.q pc a.height.now m s (pc + 3) _ refl pre.height_in_bounds _
    (stands code a.attributes pc 0xE0 (unsigned halfword) _ 3 refl refl (omega arith) (omega arith)
    (omega (arith, if1.false)) k)
    if2.false (sym is-beyond.ensures ∙ if3.true) go.result (spot go.new.pc go.new.height m s)
    (rw (place-from.ensures, half.ensures) at (go.ensures m s))

pub returns : goal.returns
unfolding row_of
returns c =
    let store-and-push = c.store_and_push in
    let if5 = c.if-not-is_plain in
    let is_plain = c.is_plain in
    let if4 = c.if-q-a in
    let wide = c.wide-a in
    let if3 = c.if-is_beyond in
    let is-beyond = c.is_beyond in
    let if2 = c.if-h-lt4 in
    let if1 = c.if-code-here in
    let a = c.args in
    let pre = c.requires in
    λ k.
    let code = a.code.now in
    let A = a.attributes in
    let pc = a.pc.now in
    let h = a.height.now in
    let m = a.memory.now in
    let s = a.stack.now in
    iter-starts code A a.q pc h m s (pc + 3)
    wide.result if4.false (sym is_plain.ensures ∙ if5.false) _ _
    (stands code A pc 0xE0 (unsigned halfword) _ 3 refl refl (omega arith) (omega arith) (omega (arith, if1.false)) k)
    (omega (arith, if1.false)) if2.false (sym wide.ensures) refl (sym is-beyond.ensures ∙ if3.false)
    store-and-push.result
    (spot store-and-push.new.pc store-and-push.new.height store-and-push.new.memory
    store-and-push.new.stack) store-and-push.ensures
