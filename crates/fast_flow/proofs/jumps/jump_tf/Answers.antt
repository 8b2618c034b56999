-- `fast_flow::jumps::jump_tf` meets its contract: by the boolean, to the place or to what is next.
use mathlib.Core.Path.{refl}
use Prim.Native.Nat.{◌+◌}
use Rattle.words.specs.Bytes.{byte_at}
use Rattle.fast.specs.Fast.{spot}
use Rattle.fast_flow.proofs.Jumping.{flag-stands, flag-goes, flag-stays}
use Rattle.fast_flow.proofs.jumps.jump_tf.Goals as goal

pub returns-then-x-truth : goal.returns-then-x-truth
returns-then-x-truth c =
    let go = c.go in
    let place-from = c.place_from-place in
    let word = c.word in
    let if3 = c.if-x-truth in
    let if1 = c.if-h-lt1 in
    let a = c.args in
    let pre = c.requires in
    λ m A q f k.
    let code = a.code.now in
    let pc = a.pc.now in
    let s = a.stack.now in
    let stands = flag-stands code A pc a.truth pre.truth_bound pre.pc_in_bounds k in
    flag-goes code A q pc a.height.now m s pre.height_in_bounds _ refl (pc + 2) a.truth
    (byte_at code (pc + 1)) pre.truth_bound stands if1.false if3.true go.result
    (spot go.new.pc go.new.height m s) (rw (place-from.ensures, word.ensures) at (go.ensures m s))

pub returns : goal.returns
returns c =
    let go2 = c.go-2 in
    let if3 = c.if-x-truth in
    let if2 = c.if-x-gt1 in
    let if1 = c.if-h-lt1 in
    let a = c.args in
    let pre = c.requires in
    λ m A q f k.
    let code = a.code.now in
    let pc = a.pc.now in
    let s = a.stack.now in
    let stands = flag-stands code A pc a.truth pre.truth_bound pre.pc_in_bounds k in
    flag-stays code A q pc a.height.now m s pre.height_in_bounds _ refl (pc + 2) a.truth
    (byte_at code (pc + 1)) pre.truth_bound stands if1.false if2.false if3.false go2.result
    (spot go2.new.pc go2.new.height m s) (go2.ensures m s)
