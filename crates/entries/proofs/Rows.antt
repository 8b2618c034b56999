-- A library is what its row of the table says; a number without a row reads as a row of zeros, whose parts are empty.
use mathlib.Core.Bool.{Bool, true, false, cond}
use mathlib.Core.Path.{◌≡◌, refl, ap, ◌∙◌}
use mathlib.Core.List.{List, []}
use Prim.Native.Nat.{ℕ, zero, suc, ◌+◌, ◌-◌, ◌*◌, ◌/◌, ◌<◌, ◌≤◌}
use native.Mathlib.Omega.{arith}
use borrow.Author.Tests.{ne_eqb, ltb-true, ltb-false}
use lib.Dec.{ltb}
use lib.ListN.{length, get_or, take, drop}
use Rattle.entries.specs.Libraries.{Library, no_library, library_in, library_at, libraries_from, libraries_in, row_word}

word_of : (t : List ℕ) (k j : ℕ) → row_word t (suc k) j ≡ cond (ltb k (length t / 4)) (get_or t (4 * k + j) 0) 0
unfolding row_word
word_of t k j = let z : suc k - 1 ≡ k = omega arith in rw (ne_eqb (suc k) 0 (λ e. omega arith), z)

module _ (t r s : List ℕ) where
  there : (first n k : ℕ) → k < n → get_or (libraries_from t r s first n) k no_library ≡ library_at t r s (first + k)
  there first zero k h = absurd (omega arith)
  there first (suc n) zero h = let z : first + 0 ≡ first = omega arith in rw z
  there first (suc n) (suc k) h =
      let z : first + 1 + k ≡ first + suc k = omega arith in
      there (first + 1) n k (omega arith) ∙ ap (library_at t r s) z

  past : (first n k : ℕ) → n ≤ k → get_or (libraries_from t r s first n) k no_library ≡ no_library
  past first zero k h = refl
  past first (suc n) zero h = absurd (omega arith)
  past first (suc n) (suc k) h = past (first + 1) n k (omega arith)

  picked : (k : ℕ) → library_in (libraries_in t r s) (suc k) ≡ cond (ltb k (length t / 4)) (library_at t r s k) no_library
  unfolding library_in libraries_in
  picked k = by (ltb k (length t / 4)) refl
    where
      by : (b : Bool) → ltb k (length t / 4) ≡ b
          → get_or (libraries_from t r s 0 (length t / 4)) k no_library ≡ cond b (library_at t r s k) no_library
      by true e =
          let z : 0 + k ≡ k = omega arith in
          there 0 (length t / 4) k (ltb-true k (length t / 4) e) ∙ ap (library_at t r s) z
      by false e = past 0 (length t / 4) k (ltb-false k (length t / 4) e)

  pub library-code : (l : ℕ) → (library_in (libraries_in t r s) l).code ≡ take (row_word t l 1) (drop (row_word t l 0) r)
  unfolding library_in row_word
  library-code zero = refl
  library-code (suc k) = rw (word_of t k 0, word_of t k 1) (ap (λ (b : Library). b.code) (picked k) ∙ by (ltb k (length t / 4)))
    where
      by : (b : Bool) → (cond b (library_at t r s k) no_library).code
          ≡ take (cond b (get_or t (4 * k + 1) 0) 0) (drop (cond b (get_or t (4 * k + 0) 0) 0) r)
      by true = let z : 4 * k + 0 ≡ 4 * k = omega arith in rw z
      by false = refl

  pub library-results : (l : ℕ) → (library_in (libraries_in t r s) l).results ≡ take (row_word t l 3) (drop (row_word t l 2) s)
  unfolding library_in row_word
  library-results zero = refl
  library-results (suc k) =
      rw (word_of t k 2, word_of t k 3) (ap (λ (b : Library). b.results) (picked k) ∙ by (ltb k (length t / 4)))
    where
      by : (b : Bool) → (cond b (library_at t r s k) no_library).results
          ≡ take (cond b (get_or t (4 * k + 3) 0) 0) (drop (cond b (get_or t (4 * k + 2) 0) 0) s)
      by true = refl
      by false = refl

-- An empty table holds no libraries.
pub none-held : (r s : List ℕ) → libraries_in [] r s ≡ []
unfolding libraries_in
none-held r s = refl
