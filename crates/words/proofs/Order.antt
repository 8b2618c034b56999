-- Numbers that rise, taken apart: the first is from the least one on and below the limit, and the rest rises behind it. The same
-- as facts, with a list behind another; by induction on the numbers. A test of every value of a row, a value at a time.
use mathlib.Core.Bool.{Bool, true, ◌&&◌, and-eq-true_iff}
use mathlib.Core.List.{List, [], ◌∷◌, ◌++◌}
use mathlib.Core.Path.{◌≡◌, refl}
use Prim.Native.Nat.{ℕ, ◌+◌, ◌-◌, ◌≤◌, ◌<◌}
use native.Mathlib.Nat.{sub-eq-zero_of_le}
use native.Mathlib.Omega.{arith}
use lib.Dec.{leb, ltb}
use borrow.Author.Tests.{leb-true, ltb-true, le-leb, lt-ltb}
use Rattle.words.specs.Order.{every, rising_from}
use Rattle.words.specs.Series.{series}
use Rattle.words.proofs.Left.{one_left}

-- A test of every value of a row, of which k are passed.
module _ (test : ℕ → Bool) (f : ℕ → ℕ) (stride at n k : ℕ) where
  pub row-over : n ≤ k → every test (series f stride at (n - k)) ≡ true
  row-over h = rw (sub-eq-zero_of_le h)

  pub row-turn : k < n → every test (series f stride at (n - k)) ≡ (test (f at) && every test (series f stride (at + stride) (n - (k + 1))))
  row-turn h = rw (one_left k n h)

pub rising-first : (limit least x : ℕ) (rest : Bool) → (leb least x && (ltb x limit && rest)) ≡ true →
    (least ≤ x) × (x < limit) × (rest ≡ true)
rising-first limit least x rest e =
    let a = (and-eq-true_iff (leb least x) (ltb x limit && rest)).0 e in
    let b = (and-eq-true_iff (ltb x limit) rest).0 a.1 in
    (leb-true least x a.0, ltb-true x limit b.0, b.1)

-- Numbers that rise from `least` on, below a limit.
abbrev pub Rises : (limit least : ℕ) → List ℕ → Type 0
Rises limit least [] = Unit {0}
Rises limit least (x ∷ xs) = (least ≤ x) × (x < limit) × Rises limit (x + 1) xs

pub rising-holds : (limit least : ℕ) (xs : List ℕ) → Rises limit least xs → rising_from limit least xs ≡ true
rising-holds limit least [] s = refl
rising-holds limit least (x ∷ xs) s = rw (le-leb least x s.0, lt-ltb x limit s.1) (rising-holds limit (x + 1) xs s.2)

pub rises-wider : (limit wider least lower : ℕ) (xs : List ℕ) → limit ≤ wider → lower ≤ least → Rises limit least xs
    → Rises wider lower xs
rises-wider limit wider least lower [] w l s = tt
rises-wider limit wider least lower (x ∷ xs) w l s =
    (omega (arith, s.0), omega (arith, s.1), rises-wider limit wider (x + 1) (x + 1) xs w (omega arith) s.2)

-- One list behind another that ends before it begins.
pub rises-append : (limit mid least : ℕ) (xs ys : List ℕ) → least ≤ mid → mid ≤ limit → Rises mid least xs → Rises limit mid ys
    → Rises limit least (xs ++ ys)
rises-append limit mid least [] ys l m s t = rises-wider limit limit mid least ys (omega arith) l t
rises-append limit mid least (x ∷ xs) ys l m s t =
    (s.0, omega (arith, s.1), rises-append limit mid (x + 1) xs ys (omega (arith, s.1)) m s.2 t)
