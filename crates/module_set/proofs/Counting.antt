-- What `all` over numbers in a row answers, as a test of every one of them.
use mathlib.Core.Bool.{Bool, true, false, ◌&&◌}
use mathlib.Core.List.{List, [], ◌∷◌}
use mathlib.Core.Path.{◌≡◌, refl, ap}
use Prim.Native.Nat.{ℕ, zero, suc, ◌+◌, ◌*◌, ◌<◌}
use native.Mathlib.Omega.{arith}
use lib.ListN.{length}
use Rattle.std.specs.Bool.{MatchBool}
use Rattle.std.specs.List.{range_with_len, AllWithin, HoldsAt}
use Rattle.words.specs.Order.{every}
use Rattle.words.specs.Series.{series}

abbrev pub row : ℕ → ℕ → List ℕ
row at n = series (λ (i : ℕ). i) 1 at n

in-row : (at n : ℕ) → range_with_len at n ≡ row at n
in-row at zero = refl
in-row at (suc n) = ap (λ (xs : List ℕ). at ∷ xs) (in-row (at + 1) n)

all-pass : (test : ℕ → Bool) (xs : List ℕ) → AllWithin (λ x. test x ≡ true) xs 0 (length xs) → every test xs ≡ true
all-pass test [] p = refl
all-pass test (x ∷ xs) p =
    rw (p 0 0 (omega arith) (omega arith)) (all-pass test xs (λ k d l h. p (suc k) d (omega arith) (omega arith)))

one-fails : (test : ℕ → Bool) (xs : List ℕ) (k : ℕ) → k < length xs → HoldsAt (λ x. test x ≡ false) xs k → every test xs ≡ false
one-fails test [] k h p = absurd (omega arith)
one-fails test (x ∷ xs) zero h p = rw (p 0)
one-fails test (x ∷ xs) (suc k) h p = by (test x) (one-fails test xs k (omega arith) p)
  where
    by : (b : Bool) → every test xs ≡ false → (b && every test xs) ≡ false
    by true e = e
    by false e = refl

pub all-told :
    (test : ℕ → Bool) (at n : ℕ) (b : Bool) →
    MatchBool b (AllWithin (λ x. test x ≡ true) (range_with_len at n) 0 (length (range_with_len at n)))
    ((k : ℕ) × (k < length (range_with_len at n)) × HoldsAt (λ x. test x ≡ false) (range_with_len at n) k) →
    b ≡ every test (row at n)
all-told test at n true p = rw (← in-row at n, all-pass test (range_with_len at n) p)
all-told test at n false p = rw (← in-row at n, one-fails test (range_with_len at n) p.0 p.1 p.2)

-- The same of a function's values at places in a row.
pub every-value : (test : ℕ → Bool) (f : ℕ → ℕ) (stride at k n : ℕ) →
    every (λ j. test (f (at + stride * j))) (row k n) ≡ every test (series f stride (at + stride * k) n)
every-value test f stride at k zero = refl
every-value test f stride at k (suc n) =
    let z : at + stride * (k + 1) ≡ at + stride * k + stride = grind arith in
    ap (λ (b : Bool). test (f (at + stride * k)) && b) (rw z at (every-value test f stride at (k + 1) n))
