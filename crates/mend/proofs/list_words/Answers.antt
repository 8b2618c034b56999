-- `mend::list_words` meets its contract. The loop's invariant: the stores of the places that are left give those of all. The
-- measure is what is left.
use Prim.Native.Nat.{suc, ◌+◌}
use mathlib.Core.Path.{◌≡◌, ◌∙◌}
use native.Mathlib.Omega.{arith}
use Rattle.words.proofs.Left.{one_left}
use Rattle.mend.proofs.list_words.Goals.{After-loop-k}
use Rattle.mend.proofs.list_words.Goals as goal

pub loop-k-preserved : goal.loop-k-preserved
loop-k-preserved c =
    let a = c.args in
    let k = c.loop-k.k in
    let next : a.to + (k + 1) ≡ suc (a.to + k) = omega arith in
    (omega arith, c.loop-k.invariant.1 ∙ rw (one_left k a.n c.loop-k-test.true, next, c.set_word.ensures))
