-- `fast_flow::jumps::jump_c` meets its contract: by the boolean, to the place or to what is next.
use native.Mathlib.Omega.{arith}
use Rattle.fast.specs.Fast.{spot}
use Rattle.fast_flow.proofs.Jumping.{jump-c-goes, jump-c-stays}
use Rattle.fast_flow.proofs.jumps.jump_c.Goals as goal

pub returns-then-x-eq0 : goal.returns-then-x-eq0
returns-then-x-eq0 c =
    let go = c.go in
    let place-from = c.place_from in
    let if3 = c.if-x-eq0 in
    let if1 = c.if-h-lt1 in
    let a = c.args in
    let pre = c.requires in
    λ m code A q sized stands.
    jump-c-goes code A q a.pc.now a.height.now m a.stack.now pre.height_in_bounds a.size sized a.next
    a.distance stands if1.false if3.true go.result (spot go.new.pc go.new.height m a.stack.now)
    (rw place-from.ensures at (go.ensures m a.stack.now))

pub returns : goal.returns
returns c =
    let go2 = c.go-2 in
    let if3 = c.if-x-eq0 in
    let if2 = c.if-x-gt1 in
    let if1 = c.if-h-lt1 in
    let a = c.args in
    let pre = c.requires in
    λ m code A q sized stands.
    jump-c-stays code A q a.pc.now a.height.now m a.stack.now pre.height_in_bounds a.size sized a.next
    a.distance stands if1.false (omega (arith, if2.false, if3.false)) go2.result
    (spot go2.new.pc go2.new.height m a.stack.now) (go2.ensures m a.stack.now)
