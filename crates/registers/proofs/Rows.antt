-- The modules of a table, row by row: what is left of the table after k rows decides what a loop over the rows looks for.
use Prim.Native.Nat.{ℕ, zero, suc, ◌+◌, ◌-◌, ◌*◌, ◌/◌, ◌<◌, ◌≤◌}
use mathlib.Core.Path.{◌≡◌, ◌∙◌, refl, sym}
use mathlib.Core.Bool.{Bool, true, false, ◌||◌}
use mathlib.Core.List.{List, [], ◌∷◌}
use native.Mathlib.Omega.{arith}
use lib.Dec.{eqb, leb}
use lib.ListN.{length}
use borrow.Author.Tests.{eq-eqb, ne_eqb, leb-false}
use Rattle.words.proofs.Left.{one_left}
use Rattle.registers.specs.Modules.{Modules, module_at, data_size, data_start, data_end, frames_start, is_fixed, between}
use Rattle.registers.specs.Modules.{no_module, number_from, no_library}
use Rattle.registers.specs.Modules.{row_word, row_at, rows_from, modules_in}
use Rattle.registers.proofs.Protected.{data-within}

-- Two sizes and three header words for each row.
abbrev pub row_bound : ℕ
row_bound = 0x2_0000_0001

module _ (t c : List ℕ) where
  rows-length : (k n : ℕ) → length (rows_from t c k n) ≡ n
  rows-length k zero = refl
  rows-length k (suc n) = rw (rows-length (k + 1) n)

  pub modules-length : length (modules_in t c) ≡ length t / 5
  unfolding modules_in
  modules-length = rows-length 0 (length t / 5)

  row-at : (i n k : ℕ) → k < n → module_at (rows_from t c i n) k ≡ row_at t c (i + k)
  row-at i zero k h = absurd (omega arith)
  row-at i (suc n) zero h =
      let none : i + 0 ≡ i = omega arith in
      rw none
  row-at i (suc n) (suc k) h =
      let next : i + suc k ≡ i + 1 + k = omega arith in
      rw next (row-at (i + 1) n k (omega arith))

  pub module-row : (k : ℕ) → k < length t / 5 → module_at (modules_in t c) k ≡ row_at t c k
  unfolding modules_in
  module-row k h =
      let none : 0 + k ≡ k = omega arith in
      row-at 0 (length t / 5) k h ∙ rw none

-- Past them there is none.
pub module-past : (Ms : Modules) (k : ℕ) → length Ms ≤ k → module_at Ms k ≡ no_module
module-past [] k h = refl
module-past (M ∷ Ms) zero h = absurd (omega arith)
module-past (M ∷ Ms) (suc k) h = module-past Ms k (omega arith)

-- A loop over the rows that looks for a fixed address.
pub record Seeking (t : List ℕ) (n a start k : ℕ) : Type 0 where
  pub count : k ≤ n
  pub small : start ≤ k * row_bound
  pub same : (c : List ℕ) → is_fixed 0 (rows_from t c 0 n) a ≡ is_fixed start (rows_from t c k (n - k)) a

pub seeking-start : (t : List ℕ) (n a : ℕ) → Seeking t n a 0 0
seeking-start t n a =
    let none : n - 0 ≡ n = omega arith in
    record { count = omega arith; small = omega arith; same = λ c. rw none }

module _ (t : List ℕ) (n a start k : ℕ) (w : Seeking t n a start k) where
  pub seeking-end : n ≤ k → (c : List ℕ) → is_fixed 0 (rows_from t c 0 n) a ≡ false
  seeking-end h c =
      let none : n - k ≡ 0 = omega arith in
      w.same c ∙ rw none

  pub seeking-header : k < n → between start (start + 3) a ≡ true → (c : List ℕ) → is_fixed 0 (rows_from t c 0 n) a ≡ true
  seeking-header h e c = w.same c ∙ rw (one_left k n h, e)

  pub seeking-constant : k < n → between start (start + 3) a ≡ false
      → between (start + 3 + row_word t k 2) (start + 3 + row_word t k 2 + row_word t k 3) a ≡ true
      → (c : List ℕ) → is_fixed 0 (rows_from t c 0 n) a ≡ true
  seeking-constant h e f c =
      let sum : start + (3 + row_word t k 2 + row_word t k 3) ≡ start + 3 + row_word t k 2 + row_word t k 3 = omega arith in
      w.same c ∙ rw (one_left k n h, e, sum, f)

  pub seeking-next : k < n → between start (start + 3) a ≡ false
      → between (start + 3 + row_word t k 2) (start + 3 + row_word t k 2 + row_word t k 3) a ≡ false
      → row_word t k 2 < 0x1_0000_0000 → row_word t k 3 < 0x1_0000_0000
      → Seeking t n a (start + 3 + row_word t k 2 + row_word t k 3) (k + 1)
  seeking-next h e f g d =
      let sum : start + (3 + row_word t k 2 + row_word t k 3) ≡ start + 3 + row_word t k 2 + row_word t k 3 = omega arith in
      record {
        count = omega arith;
        small = omega (arith, w.small);
        same = λ c. w.same c ∙ rw (one_left k n h, e, sum, f);
      }

-- A loop that adds up data frames to the one of module `goal`.
pub record Adding (t : List ℕ) (n goal start k : ℕ) : Type 0 where
  pub count : k ≤ goal
  pub small : start ≤ k * row_bound
  pub same : (c : List ℕ) → data_start 0 (rows_from t c 0 n) goal ≡ data_start start (rows_from t c k (n - k)) (goal - k)

pub adding-start : (t : List ℕ) (n goal : ℕ) → Adding t n goal 0 0
adding-start t n goal =
    let none : n - 0 ≡ n = omega arith in
    let all : goal - 0 ≡ goal = omega arith in
    record { count = omega arith; small = omega arith; same = λ c. rw (none, all) }

here : (start : ℕ) (Ms : Modules) → data_start start Ms 0 ≡ start
here start [] = refl
here start (M ∷ Ms) = refl

one_more : (t c : List ℕ) (start k u v : ℕ)
    → data_start start (rows_from t c k (suc u)) (suc v)
    ≡ data_start (start + 3 + row_word t k 2 + row_word t k 3) (rows_from t c (k + 1) u) v
one_more t c start k u v =
    let sum : start + (3 + row_word t k 2 + row_word t k 3) ≡ start + 3 + row_word t k 2 + row_word t k 3 = omega arith in
    rw (data_start, sum)

module _ (t : List ℕ) (n goal start k : ℕ) (w : Adding t n goal start k) where
  pub adding-end : goal ≤ k → (c : List ℕ) → start ≡ data_start 0 (rows_from t c 0 n) goal
  adding-end h c =
      let none : goal - k ≡ 0 = omega (arith, w.count) in
      sym (w.same c ∙ rw none (here start (rows_from t c k (n - k))))

  pub adding-next : k < goal → goal ≤ n → row_word t k 2 < 0x1_0000_0000 → row_word t k 3 < 0x1_0000_0000
      → Adding t n goal (start + 3 + row_word t k 2 + row_word t k 3) (k + 1)
  adding-next h l g d =
      let more : k < n = omega arith in
      record {
        count = omega arith;
        small = omega (arith, w.small);
        same = λ c. w.same c
            ∙ rw (one_left k n more, one_left k goal h) (one_more t c start k (n - (k + 1)) (goal - (k + 1)));
      }

-- Behind the last data frame.
pub data-all : (start : ℕ) (Ms : Modules) → data_start start Ms (length Ms) ≡ data_end start Ms
data-all start [] = refl
data-all start (M ∷ Ms) = data-all (start + data_size M) Ms

-- Nor is anything behind it.
pub data-past : (start : ℕ) (Ms : Modules) (k : ℕ) → length Ms ≤ k → data_start start Ms k ≡ data_start start Ms (length Ms)
data-past start [] k h = refl
data-past start (M ∷ Ms) zero h = absurd (omega arith)
data-past start (M ∷ Ms) (suc k) h = data-past (start + data_size M) Ms k (omega arith)

-- A loop that looks for the module whose globals begin at an address.
pub record Numbering (t : List ℕ) (n a start k : ℕ) : Type 0 where
  pub count : k ≤ n
  pub small : start ≤ k * row_bound
  pub same : (c : List ℕ) → number_from 0 (rows_from t c 0 n) a ≡ k + number_from start (rows_from t c k (n - k)) a

pub numbering_start : (t : List ℕ) (n a : ℕ) → Numbering t n a 0 0
numbering_start t n a =
    let none : n - 0 ≡ n = omega arith in
    record { count = omega arith; small = omega arith; same = λ c. rw none (omega arith) }

module _ (t : List ℕ) (n a start k : ℕ) (w : Numbering t n a start k) where
  pub numbering-end : n ≤ k → (c : List ℕ) → n ≡ number_from 0 (rows_from t c 0 n) a
  numbering-end h c =
      let none : n - k ≡ 0 = omega arith in
      let last : n ≡ k + 0 = omega (arith, w.count) in
      sym (w.same c ∙ rw none (sym last))

  pub numbering-found : k < n → a ≡ start + 3 → (c : List ℕ) → k ≡ number_from 0 (rows_from t c 0 n) a
  numbering-found h e c =
      let none : k + 0 ≡ k = omega arith in
      sym (w.same c ∙ rw (one_left k n h, eq-eqb a (start + 3) e) none)

  pub numbering-next : k < n → (a ≡ start + 3 → ⊥) → row_word t k 2 < 0x1_0000_0000 → row_word t k 3 < 0x1_0000_0000
      → Numbering t n a (start + 3 + row_word t k 2 + row_word t k 3) (k + 1)
  numbering-next h e g d =
      let sum : start + (3 + row_word t k 2 + row_word t k 3) ≡ start + 3 + row_word t k 2 + row_word t k 3 = omega arith in
      record {
        count = omega arith;
        small = omega (arith, w.small);
        same = λ c. w.same c ∙ rw (one_left k n h, ne_eqb a (start + 3) e, sum) (omega arith);
      }

-- The data frame of a row, and the end of all.
module _ (t c : List ℕ) where
  pub rows_end : data_start 0 (modules_in t c) (length t / 5) ≡ frames_start (modules_in t c)
  rows_end = rw (← modules-length t c) (data-all 0 (modules_in t c))

  pub row_within : (k : ℕ) → k < length t / 5 → data_start 0 (modules_in t c) k + 3 + row_word t k 2 ≤ frames_start (modules_in t c)
  row_within k h =
      let below : k < length (modules_in t c) = omega (arith, modules-length t c) in
      let all = data-within 0 (modules_in t c) k below in
      let size : (module_at (modules_in t c) k).globals ≡ row_word t k 2 = rw (module-row t c k h) in
      omega (arith, all.1, size)

  pub rows-past : (k : ℕ) → length t / 5 ≤ k → data_start 0 (modules_in t c) (length t / 5) ≡ data_start 0 (modules_in t c) k
  rows-past k h =
      rw (← modules-length t c) (sym (data-past 0 (modules_in t c) k (omega (arith, modules-length t c))))

-- A library that is there is a row.
second : (a b : Bool) → (a || b) ≡ false → b ≡ false
second true b e = let z : ◌≡◌ {A = Bool} true false = e in cc
second false b e = e

pub library-below : (Ms : Modules) (l : ℕ) → no_library Ms l ≡ false → l < length Ms
library-below Ms l e = leb-false (length Ms) l (second (eqb l 0) (leb (length Ms) l) e)

pub library-row : (t c : List ℕ) (l : ℕ) → no_library (modules_in t c) l ≡ false → l < length t / 5
library-row t c l e = omega (arith, modules-length t c, library-below (modules_in t c) l e)

-- The data frames do not depend on the code.
same-frames : (t c d : List ℕ) (start k n : ℕ) → data_end start (rows_from t c k n) ≡ data_end start (rows_from t d k n)
same-frames t c d start k zero = refl
same-frames t c d start k (suc n) = same-frames t c d (start + data_size (row_at t c k)) (k + 1) n

pub frames-same : (t c d : List ℕ) → frames_start (modules_in t c) ≡ frames_start (modules_in t d)
unfolding modules_in
frames-same t c d = same-frames t c d 0 0 (length t / 5)
