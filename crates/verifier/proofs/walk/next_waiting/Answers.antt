-- The first offset that waits, by `find`.
use Prim.Native.Nat.{◌+◌, ◌*◌}
use mathlib.Core.Path.{◌≡◌}
use lib.ListN.{get_or}
use Rattle.std.proofs.Common.{rules, tests}
use Rattle.std.proofs.lemmas.Iterator.{first_from_Range}
use Rattle.verifier.proofs.Chains.{first-waits}
use Rattle.verifier.proofs.walk.next_waiting.Goals as goal

pub returns : goal.returns
returns c =
    let w = c.args.w.now in
    first-waits w c.args.size c.args.from c.find.result
    (first_from_Range _ _ _ c.find.result (λ k. get_or w (4 * k + 2) 0 ≡ 0 → ⊥) (λ k. get_or w (4 * k + 2) 0 ≡ 0) c.find.ensures.ran
    (λ x q k. search (rules, tests)) (λ x q k. search (rules, tests)))
