-- Slots taken off one by one: those still to come off decide the list that is left.
use Prim.Native.Nat.{ℕ, ◌+◌, ◌-◌, ◌≤◌, ◌<◌}
use mathlib.Core.Path.{◌≡◌, refl, sym, ◌∙◌, ap}
use mathlib.Core.List.{List}
use native.Mathlib.Nat.{sub-eq-zero_of_le}
use native.Mathlib.Omega.{arith}
use Rattle.words.proofs.Left.{one_left}
use Rattle.compact.specs.declared.top.Top.{Top}
use Rattle.compact.specs.Tops.{lowered, lowered_by}

lowered-height : (code w : List ℕ) (t : Top) → (lowered code w t).height ≡ t.height - 1
unfolding lowered
lowered-height code w t = refl

-- After k of n slots.
pub record Lowering (code w : List ℕ) (n : ℕ) (start : Top) (t : Top) (k : ℕ) : Type 0 where
  pub rest : lowered_by code w (n - k) t ≡ lowered_by code w n start
  pub enough : n - k ≤ t.height

pub lowering-start : (code w : List ℕ) (n : ℕ) (t : Top) → n ≤ t.height → Lowering code w n t t 0
lowering-start code w n t h =
    let none : n - 0 ≡ n = omega arith in
    record { rest = rw none; enough = omega arith }

module _ (code w : List ℕ) (n : ℕ) (start t : Top) (k : ℕ) (L : Lowering code w n start t k) where
  pub lowering-next : (t' : Top) → k < n → t' ≡ lowered code w t → Lowering code w n start t' (k + 1)
  lowering-next t' h e =
      let one : lowered_by code w (n - k) t ≡ lowered_by code w (n - (k + 1)) (lowered code w t) = rw (one_left k n h) in
      let low : t'.height ≡ t.height - 1 = ap (λ (x : Top). x.height) e ∙ lowered-height code w t in
      record { rest = rw e (sym one ∙ L.rest); enough = omega (arith, L.enough) }

  pub lowering-done : n ≤ k → t ≡ lowered_by code w n start
  lowering-done h = rw (sub-eq-zero_of_le h) at L.rest
