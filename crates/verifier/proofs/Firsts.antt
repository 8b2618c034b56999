-- Numbers over the members of a set, the first one given and the lowest one: where there is none no member gives one, how
-- large they are, and a turn of a loop takes the first of what is left.
use mathlib.Core.Bool.{Bool, true, false, cond}
use mathlib.Core.List.{[], ◌∷◌}
use mathlib.Core.Path.{◌≡◌, ◌∙◌, refl, sym}
use Prim.Native.Nat.{ℕ, zero, suc, ◌+◌, ◌≤◌, ◌<◌}
use native.Mathlib.Numerals.{add-one}
use native.Mathlib.Omega.{arith}
use lib.Dec.{eqb, ltb}
use lib.ListN.{length, drop, drop_of_length-le}
use lib.Seq.{drop-cons}
use borrow.Author.Tests.{eq-eqb, ne_eqb, eqb-true, eqb-false}
use Rattle.words.specs.Refusal.{lower}
use Rattle.words.proofs.Refusal.{lower-left, lower-none, lower-assoc}
use Rattle.words.proofs.Tests.{either}
use Rattle.module_set.specs.Members.{Member, Members, no_member, member_at}
use Rattle.module_set.specs.Linked.{lowest_of}
use Rattle.verifier.specs.Check.{first_of}

first-both : (number : Member → ℕ) (M : Member) (S : Members) → first_of number (M ∷ S) ≡ 0
    → (number M ≡ 0) × (first_of number S ≡ 0)
first-both number M S e = by (eqb (number M) 0) refl e
  where
    by : (t : Bool) → eqb (number M) 0 ≡ t → cond t (first_of number S) (number M) ≡ 0 → (number M ≡ 0) × (first_of number S ≡ 0)
    by true q f = (eqb-true (number M) 0 q, f)
    by false q f = absurd (eqb-false (number M) 0 q f)

lower-within : (most a b : ℕ) → a ≤ most → b ≤ most → lower a b ≤ most
unfolding lower
lower-within most a b h l =
    either (λ (n : ℕ). n ≤ most) (eqb a 0) b _ l
    (either (λ (n : ℕ). n ≤ most) (eqb b 0) a _ h (either (λ (n : ℕ). n ≤ most) (ltb b a) b a l h))

module _ (number : Member → ℕ) where
  pub first-clear : (S : Members) → first_of number S ≡ 0 → (k : ℕ) → k < length S → number (member_at S k) ≡ 0
  first-clear [] e k h = absurd (omega arith)
  first-clear (M ∷ S) e zero h = (first-both number M S e).0
  first-clear (M ∷ S) e (suc k) h = first-clear S (first-both number M S e).1 k (omega arith)

  pub first-none : (S : Members) → ((k : ℕ) → k < length S → number (member_at S k) ≡ 0) → first_of number S ≡ 0
  first-none [] f = refl
  first-none (M ∷ S) f =
      let z : number M ≡ 0 = f 0 (omega arith) in
      rw z (first-none S (λ k h. f (suc k) (omega arith)))

  pub lowest-none : (S : Members) → ((k : ℕ) → k < length S → number (member_at S k) ≡ 0) → lowest_of number S ≡ 0
  lowest-none [] f = refl
  lowest-none (M ∷ S) f =
      let z : number M ≡ 0 = f 0 (omega arith) in
      rw (z, lower-left (lowest_of number S)) (lowest-none S (λ k h. f (suc k) (omega arith)))

  pub first_range : (most : ℕ) → ((M : Member) → number M ≤ most) → (S : Members) → first_of number S ≤ most
  first_range most f [] = omega arith
  first_range most f (M ∷ S) =
      either (λ (n : ℕ). n ≤ most) (eqb (number M) 0) (first_of number S) (number M) (first_range most f S) (f M)

  pub lowest-range : (most : ℕ) → ((M : Member) → number M ≤ most) → (S : Members) → lowest_of number S ≤ most
  lowest-range most f [] = omega arith
  lowest-range most f (M ∷ S) = lower-within most (number M) (lowest_of number S) (f M) (lowest-range most f S)

  -- The members from member k on.
  module _ (S : Members) (k : ℕ) where
    pub first-over : length S ≤ k → first_of number (drop k S) ≡ 0
    first-over h = rw (drop_of_length-le S {i = k} h)

    module _ (h : k < length S) (n : ℕ) (e : n ≡ number (member_at S k)) where
      pub first_found : (n ≡ 0 → ⊥) → first_of number (drop k S) ≡ n
      first_found some = rw (drop-cons S k no_member h, ← e, ne_eqb n 0 some)

      pub first_next : n ≡ 0 → first_of number (drop k S) ≡ first_of number (drop (k + 1) S)
      first_next none = rw (drop-cons S k no_member h, add-one k, ← e, eq-eqb n 0 none)

    -- `low` is the lowest of the members before.
    pub lowest-over : (low : ℕ) → lower low (lowest_of number (drop k S)) ≡ lowest_of number S → length S ≤ k
        → low ≡ lowest_of number S
    lowest-over low all h = sym (lower-none low) ∙ (rw (drop_of_length-le S {i = k} h) at all)

    pub lowest-next : (low n next : ℕ) → lower low (lowest_of number (drop k S)) ≡ lowest_of number S → k < length S
        → n ≡ number (member_at S k) → next ≡ lower low n → lower next (lowest_of number (drop (k + 1) S)) ≡ lowest_of number S
    lowest-next low n next all h e f =
        let more = lowest_of number (drop (k + 1) S) in
        let turn : lowest_of number (drop k S) ≡ lower n more = rw (drop-cons S k no_member h, add-one k, e) in
        rw f (lower-assoc low n more ∙ (rw turn at all))
