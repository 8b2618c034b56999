-- `icode::write_span` meets its contract: four words one after the other, and what stands behind them.
use mathlib.Core.List.{[], ◌∷◌}
use native.Mathlib.Omega.{arith}
use lib.ListN.{length-set}
use lib.Seq.{sets-eq}
use Rattle.icode.proofs.write_span.Goals as goal

pub bounds-out-1 : goal.bounds-out-1
bounds-out-1 c = simp length-set (omega arith)

pub bounds-out-2 : goal.bounds-out-2
bounds-out-2 c = simp length-set (omega arith)

pub returns : goal.returns
returns c =
    let a = c.args in
    sets-eq (a.outside ∷ a.first ∷ a.last ∷ a.line ∷ []) a.out.now 0 c.requires
