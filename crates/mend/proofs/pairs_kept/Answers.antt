-- `mend::pairs_kept` meets its contract: each pair that is kept is counted.
use mathlib.Core.List.{[], ◌∷◌}
use mathlib.Core.Path.{refl}
use native.Mathlib.Omega.{arith}
use lib.ListN.{length-append}
use Rattle.mend.proofs.Passing.{passed_start, passed-kept, passed-dropped}
use Rattle.mend.proofs.pairs_kept.Goals as goal

pub loop-kept-init : goal.loop-kept-init
loop-kept-init c =
    let first = c.of-pairs.ensures in
    passed_start first.at first.left first.least refl

pub loop-kept-preserved-then-kept : goal.loop-kept-preserved-then-kept
loop-kept-preserved-then-kept c =
    passed-kept c.loop-kept.invariant c.in-Some.ensures c.if-kept.true
    (λ kept dropped e. omega (arith, e, length-append kept (c.in-Some.field-0-0 ∷ [])))

pub loop-kept-preserved : goal.loop-kept-preserved
loop-kept-preserved c = passed-dropped c.loop-kept.invariant c.in-Some.ensures c.if-kept.false (λ kept dropped e. e)
