-- The SIDs of a set are those of the directory's rows, and a library's number is where its SID stands among them. By induction
-- on the rows.
use mathlib.Core.Bool.{Bool, true, false, not, cond, ◌&&◌, ◌||◌}
use mathlib.Core.List.{List, [], ◌∷◌}
use mathlib.Core.Path.{◌≡◌, ◌∙◌, refl, sym, ap}
use Prim.Native.Nat.{ℕ, zero, suc, ◌+◌, ◌-◌, ◌/◌, ◌<◌, ◌≤◌}
use native.Mathlib.Omega.{arith}
use lib.Dec.{eqb, ltb}
use lib.ListN.{length, get_or, drop}
use borrow.Author.Tests.{eq-eqb, ne_eqb, ltb-true, ltb-false}
use Rattle.std.specs.Option.{MatchOption, unwrap_or}
use Rattle.std.specs.Prelude.{Option, None, Some}
use Rattle.words.specs.Order.{every}
use Rattle.words.proofs.Tests.{either}
use Rattle.module_set.specs.Members.{Members, members_from, members_of, libraries, number_from, number_of}
use Rattle.module_set.specs.Linked.{has, sids_of, distinct}
use Rattle.module_set.specs.Rows.{row_word, sids_in, seek_from}
use Rattle.module_set.proofs.Counting.{row}
use Rattle.module_set.proofs.Shares.{row-some, row_next, rows_left}

sids-shift : (d : List ℕ) (k n : ℕ) → sids_in (drop 4 d) k n ≡ sids_in d (suc k) n
sids-shift d k zero = refl
sids-shift d k (suc n) =
    let z : suc (k + 1) ≡ suc k + 1 = omega arith in
    rw (row_next d k 0) (ap (λ (xs : List ℕ). row_word d (suc k) 0 ∷ xs) (rw z at (sids-shift d (k + 1) n)))

sids-from : (n : ℕ) (r l d : List ℕ) → n ≡ length d / 4 → sids_of (members_from n r l d) ≡ sids_in d 0 n
sids-from zero r l d e = refl
sids-from (suc n) r l d e =
    let rest = sids-from n (drop (get_or d 1 0) r) (drop (get_or d 2 0) l) (drop 4 d) (rows_left d n e) ∙ sids-shift d 0 n in
    rw (row-some d 0 0 (omega arith)) (ap (λ (xs : List ℕ). get_or d 0 0 ∷ xs) rest)

sids-behind : (n : ℕ) (r l d : List ℕ) → n ≡ length d / 4 → sids_of (libraries (members_from n r l d)) ≡ sids_in d 1 (n - 1)
sids-behind zero r l d e = refl
sids-behind (suc n) r l d e =
    let z : suc n - 1 ≡ n = omega arith in
    rw z (sids-from n (drop (get_or d 1 0) r) (drop (get_or d 2 0) l) (drop 4 d) (rows_left d n e) ∙ sids-shift d 0 n)

pub library-sids : (r l d : List ℕ) → sids_of (libraries (members_of r l d)) ≡ sids_in d 1 (length d / 4 - 1)
unfolding members_of
library-sids r l d = sids-behind (length d / 4) r l d refl

pub number-seeks : (k : ℕ) (S : Members) (sid : ℕ) → number_from k S sid ≡ seek_from k (sids_of S) sid
number-seeks k [] sid = refl
number-seeks k (M ∷ S) sid = rw (number-seeks (k + 1) S sid)

pub number-found : (r l d : List ℕ) (sid : ℕ) → number_of (members_of r l d) sid ≡ seek_from 1 (sids_in d 1 (length d / 4 - 1)) sid
unfolding number_of
number-found r l d sid =
    number-seeks 1 (libraries (members_of r l d)) sid ∙ ap (λ (xs : List ℕ). seek_from 1 xs sid) (library-sids r l d)

-- A SID is among them just if it has a place from 1 on.
pub seek-has : (k : ℕ) (xs : List ℕ) (sid : ℕ) → 1 ≤ k → has xs sid ≡ not (eqb (seek_from k xs sid) 0)
seek-has k [] sid h = refl
seek-has k (x ∷ xs) sid h = by (eqb x sid) (seek-has (k + 1) xs sid (omega arith))
  where
    by : (t : Bool) → has xs sid ≡ not (eqb (seek_from (k + 1) xs sid) 0)
        → (t || has xs sid) ≡ not (eqb (cond t k (seek_from (k + 1) xs sid)) 0)
    by true rest = rw (ne_eqb k 0 (λ e. omega arith))
    by false rest = rest

pub seek-below : (k : ℕ) (xs : List ℕ) (sid : ℕ) → seek_from k xs sid ≤ k + length xs
seek-below k [] sid = omega arith
seek-below k (x ∷ xs) sid =
    either (λ (n : ℕ). n ≤ k + length (x ∷ xs)) (eqb x sid) k (seek_from (k + 1) xs sid) (omega arith)
    (omega (arith, seek-below (k + 1) xs sid))

-- The first row that has a SID, of those from row k on.
module _ (d : List ℕ) (sid : ℕ) where
  seek-none : (m k : ℕ) → ((i : ℕ) → k ≤ i → i < k + m → row_word d i 0 ≡ sid → ⊥) → seek_from k (sids_in d k m) sid ≡ 0
  seek-none zero k p = refl
  seek-none (suc m) k p =
      rw (ne_eqb (row_word d k 0) sid (p k (omega arith) (omega arith)))
      (seek-none m (k + 1) (λ i l h. p i (omega arith) (omega arith)))

  seek-first : (m k i : ℕ) → k ≤ i → i < k + m → row_word d i 0 ≡ sid → ((j : ℕ) → k ≤ j → j < i → row_word d j 0 ≡ sid → ⊥)
      → seek_from k (sids_in d k m) sid ≡ i
  seek-first zero k i l h e p = absurd (omega arith)
  seek-first (suc m) k i l h e p =
      by (ltb k i) refl (λ q. seek-first m (k + 1) i (omega arith) (omega arith) e (λ j a b. p j (omega arith) b))
    where
      by : (b : Bool) → ltb k i ≡ b → (k < i → seek_from (k + 1) (sids_in d (k + 1) m) sid ≡ i)
          → seek_from k (sids_in d k (suc m)) sid ≡ i
      by true q rest =
          let before : k < i = ltb-true k i q in
          rw (ne_eqb (row_word d k 0) sid (p k (omega arith) before)) (rest before)
      by false q rest =
          let same : k ≡ i = omega (arith, ltb-false k i q) in
          rw (same, eq-eqb (row_word d i 0) sid e)

  pub found-first :
      (n k : ℕ) (r : Option ℕ) →
      MatchOption r ((i : ℕ) → k ≤ i → i < n → row_word d i 0 ≡ sid → ⊥)
      (λ i. (k ≤ i) × (i < n) × (row_word d i 0 ≡ sid) × ((j : ℕ) → k ≤ j → j < i → row_word d j 0 ≡ sid → ⊥)) →
      unwrap_or r 0 ≡ seek_from k (sids_in d k (n - k)) sid
  found-first n k None p = sym (seek-none (n - k) k (λ i l h. p i l (omega arith)))
  found-first n k (Some i) p = sym (seek-first (n - k) k i p.0 (omega (arith, p.0, p.1)) p.2 p.3)

-- No two rows from row k on have one SID where none has that of a row behind it.
pub rows-distinct :
    (d : List ℕ) (n m k : ℕ) → n - k ≡ m →
    every (λ i. eqb (seek_from (i + 1) (sids_in d (i + 1) (n - (i + 1))) (row_word d i 0)) 0) (row k m)
    ≡ distinct (sids_in d k m)
rows-distinct d n zero k e = refl
rows-distinct d n (suc m) k e =
    let left : n - (k + 1) ≡ m = omega arith in
    let found = seek_from (k + 1) (sids_in d (k + 1) m) (row_word d k 0) in
    rw (left, seek-has (k + 1) (sids_in d (k + 1) m) (row_word d k 0) (omega arith), not-not (eqb found 0))
    (ap (λ (b : Bool). eqb found 0 && b) (rows-distinct d n m (k + 1) left))
  where
    not-not : (b : Bool) → not (not b) ≡ b
    not-not true = refl
    not-not false = refl
