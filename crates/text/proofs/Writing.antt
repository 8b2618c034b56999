-- Text written piece by piece, and how long numbers are. Stores one after the other are the stores of the joined text, whether there is
-- room for them or not, so a piece behind a piece is the two as one; a loop is told by what is left to write.
use Prim.Native.Nat.{ℕ, zero, suc, ◌+◌, ◌*◌, ◌-◌, ◌/◌, ◌%◌, ◌^◌, ◌≤◌, ◌<◌, max}
use mathlib.Core.Path.{◌≡◌, refl, sym, ◌∙◌, ap}
use mathlib.Core.List.{List, [], ◌∷◌, ◌++◌, append_assoc, append-nil}
use native.Mathlib.Nat.{add-zero, pow-suc}
use native.Mathlib.Omega.{arith}
use borrow.Author.Tests.{ltb-true, ltb-false}
use lib.Dec.{ltb}
use lib.ListN.{length, set, get_or, drop, length-append}
use Rattle.words.proofs.Tests.{either, by-test}
use Rattle.words.proofs.Slices.{drop-one}
use Rattle.words.proofs.Sets.{sets_then}
use Rattle.text.specs.Text.{power, digits, width, decimal, words_text, numbered, Wrote}

-- A piece behind a piece.
pub wrote_then : {a b c x y : List ℕ} {at r q : ℕ} → Wrote a at x r b → Wrote b r y q c → Wrote a at (x ++ y) q c
wrote_then {a} {b} {c} {x} {y} {at} {r} {q} f g = record {
  ends = rw (length-append x y) (omega (arith, f.ends, g.ends));
  leaves = rw (g.leaves, f.leaves, f.ends) (sets_then a at x y);
}

pub wrote_nothing : {a : List ℕ} {at : ℕ} → Wrote a at [] at a
wrote_nothing {a} {at} = record { ends = sym (add-zero at); leaves = refl }

-- One byte is stored.
pub wrote_one : {a b : List ℕ} {at v next : ℕ} → b ≡ set a at v → next ≡ at + 1 → Wrote a at (v ∷ []) next b
wrote_one e n = record { ends = n; leaves = e }

-- Within a loop: a part of the text is done, the rest is left.
pub record Left (before : List ℕ) (at : ℕ) (text out : List ℕ) (place : ℕ) (rest : List ℕ) : Type 0 where
  pub done : List ℕ
  pub whole : done ++ rest ≡ text
  pub wrote : Wrote before at done place out

pub left-start : {before text rest : List ℕ} {at place : ℕ} → rest ≡ text → place ≡ at → Left before at text before place rest
left-start r e = record { done = []; whole = r; wrote = rw e wrote_nothing }

module _ {before text out rest : List ℕ} {at place : ℕ} (l : Left before at text out place rest) where
  pub left-next : {x more after : List ℕ} {next : ℕ} → rest ≡ x ++ more → Wrote out place x next after → Left before at text after next more
  left-next {x} {more} e w = record {
    done = l.done ++ x;
    whole = append_assoc l.done x more ∙ (ap (λ (r : List ℕ). l.done ++ r) (sym e) ∙ l.whole);
    wrote = wrote_then l.wrote w;
  }

  pub left_over : {next : ℕ} → rest ≡ [] → next ≡ place → Wrote before at text next out
  left_over e n =
      let all : text ≡ l.done = sym l.whole ∙ (ap (λ (r : List ℕ). l.done ++ r) e ∙ append-nil l.done) in
      rw (all, n) l.wrote

-- The next of w digits.
pub digits-one :
    (w i n : ℕ) → i < w → digits (w - i) n ≡ (48 + n / power (w - 1 - i) % 10) ∷ digits (w - (i + 1)) n
digits-one w i n h =
    let more : w - i ≡ suc (w - (i + 1)) = omega arith in
    let place : w - 1 - i ≡ w - (i + 1) = omega arith in
    rw (more, place)

-- The next of the words, behind its space.
pub words-one :
    (xs : List ℕ) (i : ℕ) → i < length xs →
    words_text (drop i xs) ≡ (32 ∷ []) ++ (decimal (get_or xs i 0) ++ words_text (drop (i + 1) xs))
words-one xs i h = ap words_text (drop-one xs i h)

pub power-positive : (k : ℕ) → 1 ≤ power k
power-positive zero = omega arith
power-positive (suc k) = let p : 1 ≤ power k = power-positive k in omega arith

pub length_digits : (k n : ℕ) → length (digits k n) ≡ k
length_digits zero n = refl
length_digits (suc k) n = ap suc (length_digits k n)

abbrev Wide : ℕ → Type 0
Wide k = (1 ≤ k) × (k ≤ 10)

pub width-bounds : (n : ℕ) → (1 ≤ width n) × (width n ≤ 10)
unfolding width
width-bounds n =
    either Wide (ltb n 10) _ _ (omega arith)
    (either Wide (ltb n 100) _ _ (omega arith)
    (either Wide (ltb n 1000) _ _ (omega arith)
    (either Wide (ltb n 10000) _ _ (omega arith)
    (either Wide (ltb n 100000) _ _ (omega arith)
    (either Wide (ltb n 1000000) _ _ (omega arith)
    (either Wide (ltb n 10000000) _ _ (omega arith)
    (either Wide (ltb n 100000000) _ _ (omega arith)
    (either Wide (ltb n 1000000000) _ _ (omega arith) (omega arith)))))))))

pub decimal-short : (n : ℕ) → length (decimal n) ≤ 10
unfolding decimal
decimal-short n = rw (length_digits (width n) n) (width-bounds n).1

-- A number is at most ten bytes behind its text.
pub number-ends : (text : List ℕ) (n : ℕ) {a b : List ℕ} {at q : ℕ} → Wrote a at (numbered text n) q b → q ≤ at + length text + 10
unfolding numbered
number-ends text n w = omega (arith, w.ends, length-append text (decimal n), decimal-short n)

pub words-short : (xs : List ℕ) → length (words_text xs) ≤ 11 * length xs
words-short [] = omega arith
words-short (x ∷ xs) =
    rw (length-append (decimal x) (words_text xs)) (omega (arith, decimal-short x, words-short xs))

-- A number has as many digits as tell between which powers it lies; 0 has one.
pub power-is : (k : ℕ) → 10 ^ k ≡ power k
power-is zero = refl
power-is (suc k) = rw pow-suc (omega (arith, power-is k))

power-gap : (j k : ℕ) → j < k → 10 * power j ≤ power k
power-gap zero zero h = absurd (omega arith)
power-gap zero (suc k) h = omega (arith, power-positive k)
power-gap (suc j) zero h = absurd (omega arith)
power-gap (suc j) (suc k) h = omega (arith, power-gap j k (omega arith))

abbrev Sized : ℕ → ℕ → Type 0
Sized n k = (power (k - 1) ≤ max n 1) × (max n 1 < 10 * power (k - 1))

sized : (n : ℕ) → n < 2 ^ 32 → Sized n (width n)
unfolding width
sized n h =
    let P = Sized n in
    let below = ltb-true n in
    let from = ltb-false n in
    by-test P (ltb n 10) _ _ (λ e. (omega arith, omega (arith, below 10 e))) (λ a.
    by-test P (ltb n 100) _ _ (λ e. (omega (arith, from 10 a), omega (arith, below 100 e))) (λ a.
    by-test P (ltb n 1000) _ _ (λ e. (omega (arith, from 100 a), omega (arith, below 1000 e))) (λ a.
    by-test P (ltb n 10000) _ _ (λ e. (omega (arith, from 1000 a), omega (arith, below 10000 e))) (λ a.
    by-test P (ltb n 100000) _ _ (λ e. (omega (arith, from 10000 a), omega (arith, below 100000 e))) (λ a.
    by-test P (ltb n 1000000) _ _ (λ e. (omega (arith, from 100000 a), omega (arith, below 1000000 e))) (λ a.
    by-test P (ltb n 10000000) _ _ (λ e. (omega (arith, from 1000000 a), omega (arith, below 10000000 e))) (λ a.
    by-test P (ltb n 100000000) _ _ (λ e. (omega (arith, from 10000000 a), omega (arith, below 100000000 e))) (λ a.
    by-test P (ltb n 1000000000) _ _ (λ e. (omega (arith, from 100000000 a), omega (arith, below 1000000000 e))) (λ a.
    (omega (arith, from 1000000000 a), omega arith))))))))))

pub width-is : (n k : ℕ) → n < 2 ^ 32 → 10 ^ k ≤ max n 1 → max n 1 < 10 * 10 ^ k → k + 1 ≡ width n
width-is n k h low high =
    let w = width n - 1 in
    let s = sized n h in
    let e = power-is k in
    let under : k < w → ⊥ = λ l. omega (arith, power-gap k w l) in
    let over : w < k → ⊥ = λ l. omega (arith, power-gap w k l) in
    omega (arith, width-bounds n)

-- The powers up to the ninth fit a word.
pub power-fits : (k : ℕ) → k ≤ 9 → 10 ^ k < 2 ^ 32
power-fits k h = omega (arith, power-is k, power-is 10, power-gap k 10)
