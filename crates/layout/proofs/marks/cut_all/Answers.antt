-- `marks::cut_all` meets its contract: each turn marks a region, and what is left decides.
use native.Mathlib.Omega.{arith}
use Rattle.std.proofs.Common.{rules}
use Rattle.entries.proofs.Bounds.{count-below}
use Rattle.layout.proofs.Turns.{regions-start, regions-next}
use Rattle.layout.proofs.marks.cut_all.Goals as goal

pub loop-p-init : goal.loop-p-init
loop-p-init c = search (rules, regions-start)

pub cut_region-requires-clause-p_bound : goal.cut_region-requires-clause-p_bound
cut_region-requires-clause-p_bound c = omega (arith, count-below c.args.code.now (λ k. omega (arith, c.type_inv.code k)))

pub loop-p-preserved : goal.loop-p-preserved
loop-p-preserved c = search (rules, regions-next)
