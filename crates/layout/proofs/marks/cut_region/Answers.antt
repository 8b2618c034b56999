-- `marks::cut_region` meets its contract: each turn marks one instruction, and what is left decides.
use mathlib.Core.Path.{◌∙◌, sym}
use native.Mathlib.Omega.{arith}
use Rattle.std.proofs.Common.{rules}
use Rattle.entries.proofs.Bounds.{region-below}
use Rattle.layout.proofs.Turns.{region-start, region-next}
use Rattle.layout.proofs.marks.cut_region.Goals as goal

pub loop-init : goal.loop-init
loop-init c = let e = c.entry_at-at.type_inv in search (rules, region-start)

pub loop-preserved : goal.loop-preserved
loop-preserved c =
    let a = c.args in
    let e = c.region_end-limit.ensures in
    region-next a.code.now a.p a.w.now c.loop.w c.loop.at c.loop.counter c.loop.invariant c.region_end-limit.result e
    c.loop-test.true _ _ _ c.if-limit-at.false (sym c.decode.ensures ∙ c.in_ok-next.was)
    (rw e (region-below a.code.now (λ k. omega (arith, c.type_inv.code k)) a.p c.requires.code_len_bound)) c.set_half.ensures
