-- `fast_flow::loops::round` meets its contract: by the sign of the step, past the loop or to the label.
use mathlib.Core.Path.{◌∙◌, sym}
use Rattle.fast.specs.Fast.{spot}
use Rattle.fast_flow.proofs.Looping.{round-ends, round-turns}
use Rattle.fast_flow.proofs.loops.round.Goals as goal

pub returns-then-is_beyond : goal.returns-then-is_beyond
returns-then-is_beyond c =
    let store-and-go = c.store_and_go in
    let if1 = c.if-is_beyond in
    let is-beyond = c.is_beyond in
    let a = c.args in
    let pre = c.requires in
    λ code A q sized stands e.
    let s = a.stack.now in
    round-ends code A q a.pc.now a.height.now a.memory.now s a.next a.size sized pre.height_in_bounds
    a.a a.x stands pre.le_height e (sym is-beyond.ensures ∙ if1.true) store-and-go.result
    (spot store-and-go.new.pc store-and-go.new.height store-and-go.new.memory s) (store-and-go.ensures s)

pub returns : goal.returns
returns c =
    let store-and-go2 = c.store_and_go-2 in
    let wide = c.wide in
    let if1 = c.if-is_beyond in
    let is-beyond = c.is_beyond in
    let a = c.args in
    let pre = c.requires in
    λ code A q sized stands e.
    let s = a.stack.now in
    round-turns code A q a.pc.now a.height.now a.memory.now s a.next a.size sized pre.height_in_bounds
    a.a a.x stands pre.le_height e (sym is-beyond.ensures ∙ if1.false) store-and-go2.result
    (spot store-and-go2.new.pc store-and-go2.new.height store-and-go2.new.memory s)
    (rw wide.ensures at (store-and-go2.ensures s))
