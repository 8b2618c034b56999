-- What chains of iterators give, in the words of the definitions: a test of all numbers, and the first offset that waits.
use mathlib.Core.Bool.{Bool, ◌&&◌}
use mathlib.Core.List.{List, [], ◌∷◌}
use mathlib.Core.Path.{◌≡◌, refl, ◌∙◌, sym, ap}
use Prim.Native.Nat.{ℕ, zero, suc, ◌+◌, ◌-◌, ◌*◌, ◌≤◌, ◌<◌}
use native.Mathlib.Omega.{arith}
use borrow.Author.Tests.{ne_eqb}
use lib.ListN.{get_or}
use Rattle.std.specs.Prelude.{Option, Some, None, MatchOption}
use Rattle.std.specs.List.{list_all}
use Rattle.words.specs.Order.{every}
use Rattle.words.proofs.Left.{at_or_after}
use Rattle.verifier.specs.Handing.{first_waiting}

pub list_all-every : (test : ℕ → Bool) (xs : List ℕ) → list_all test xs ≡ every test xs
list_all-every test [] = refl
list_all-every test (x ∷ xs) = ap (λ b. test x && b) (list_all-every test xs)

module _ (w : List ℕ) where
  abbrev pub Rests : ℕ → Type 0
  Rests k = get_or w (4 * k + 2) 0 ≡ 0

  none-waits : (at n : ℕ) → ((k : ℕ) → at ≤ k → k < at + n → Rests k) → first_waiting w at n ≡ at + n
  none-waits at zero h = omega arith
  none-waits at (suc n) h =
      let z : get_or w (4 * at + 2) 0 ≡ 0 = h at (omega arith) (omega arith) in
      let more : first_waiting w (at + 1) n ≡ at + 1 + n = none-waits (at + 1) n (λ k l m. h k (omega arith) (omega arith)) in
      rw z (more ∙ omega arith)

  one-waits : (at n i : ℕ) → at ≤ i → i < at + n → (Rests i → ⊥) → ((k : ℕ) → at ≤ k → k < i → Rests k) → first_waiting w at n ≡ i
  one-waits at zero i l m some h = absurd (omega arith)
  one-waits at (suc n) i l m some h =
      at_or_after (λ (j : ℕ). (Rests j → ⊥) → ((k : ℕ) → at ≤ k → k < j → Rests k) → j < at + suc n → first_waiting w at (suc n) ≡ j) at i l
      (λ free before near. rw (ne_eqb (get_or w (4 * at + 2) 0) 0 free))
      (λ (later : at < i) free before near.
      let z : Rests at = before at (omega arith) later in
      rw z (one-waits (at + 1) n i (omega arith) (omega arith) free (λ k a b. before k (omega arith) b)))
      some h m

  -- What `find` says of the offsets, by its cases.
  pub first-waits :
      (size from : ℕ) (r : Option ℕ) →
      MatchOption r ((k : ℕ) → from ≤ k → k < size → Rests k)
      (λ i. (from ≤ i) × (i < size) × (Rests i → ⊥) × ((k : ℕ) → from ≤ k → k < i → Rests k)) →
      let first = first_waiting w from (size - from) in
      MatchOption r (size ≤ first) (λ at. (at < size) × (at ≡ first))
  first-waits size from None h = omega (arith, none-waits from (size - from) (λ k l m. h k l (omega arith)))
  first-waits size from (Some i) (l, m, some, h) =
      (m, sym (one-waits from (size - from) i l (omega arith) some h))
