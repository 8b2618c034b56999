-- Marks stand for places: a place within the marks is marked just if it is among the places, or was marked before. By induction
-- on the places.
use mathlib.Core.Bool.{Bool, true, false, ◌||◌, or_comm}
use mathlib.Core.List.{List, [], ◌∷◌, ◌++◌}
use mathlib.Core.Path.{◌≡◌, ◌∙◌, refl, sym, ap}
use Prim.Native.Nat.{ℕ, ◌<◌, ◌≤◌}
use native.Mathlib.Omega.{arith}
use lib.Dec.{eqb, ltb}
use lib.ListN.{length, set, replicate, length-set, length-replicate, get_or-replicate, get_or-eq_default}
use lib.Seq.{get_or-set_same, get_or-set_other}
use borrow.Author.Tests.{eqb-true, eqb-false, ltb-true, ltb-false}
use Rattle.module_set.specs.Linked.{has}
use Rattle.relocation.specs.Marks.{marked, is_marked}

pub marked_append : (m xs ys : List ℕ) → marked m (xs ++ ys) ≡ marked (marked m xs) ys
marked_append m [] ys = refl
marked_append m (x ∷ xs) ys = marked_append (set m x 1) xs ys

pub marked-length : (m xs : List ℕ) → length (marked m xs) ≡ length m
marked-length m [] = refl
marked-length m (x ∷ xs) = marked-length (set m x 1) xs ∙ length-set m x 1

mark-one : (m : List ℕ) (x i : ℕ) → i < length m → is_marked (set m x 1) i ≡ (eqb x i || is_marked m i)
mark-one m x i h = by (eqb x i) refl
  where
    by : (b : Bool) → eqb x i ≡ b → is_marked (set m x 1) i ≡ (b || is_marked m i)
    by true e =
        let same : x ≡ i = eqb-true x i e in
        rw (same, get_or-set_same m i 1 0 h)
    by false e = rw (get_or-set_other m x i 1 0 (λ q. eqb-false x i e (sym q)))

pub marked-has : (m xs : List ℕ) (i : ℕ) → i < length m → is_marked (marked m xs) i ≡ (has xs i || is_marked m i)
marked-has m [] i h = refl
marked-has m (x ∷ xs) i h =
    marked-has (set m x 1) xs i (rw (length-set m x 1) h)
    ∙ (ap (λ (b : Bool). has xs i || b) (mark-one m x i h) ∙ turned (has xs i) (eqb x i) (is_marked m i))
  where
    turned : (a b c : Bool) → (a || (b || c)) ≡ ((b || a) || c)
    turned true true c = refl
    turned true false c = refl
    turned false true c = refl
    turned false false c = refl

-- Every place of a list is below a bound.
abbrev pub Below : ℕ → List ℕ → Type 0
Below n [] = Unit {0}
Below n (x ∷ xs) = (x < n) × Below n xs

pub below-append : (n : ℕ) (xs ys : List ℕ) → Below n xs → Below n ys → Below n (xs ++ ys)
below-append n [] ys a b = b
below-append n (x ∷ xs) ys a b = (a.0, below-append n xs ys a.1 b)

pub below_wider : (n more : ℕ) (xs : List ℕ) → n ≤ more → Below n xs → Below more xs
below_wider n more [] l a = tt
below_wider n more (x ∷ xs) l a = (omega (arith, a.0), below_wider n more xs l a.1)

pub has-below : (n : ℕ) (xs : List ℕ) → Below n xs → (i : ℕ) → has xs i ≡ true → i < n
has-below n [] b i h = absurd (impossible h)
  where
    impossible : false ≡ true → ⊥
    impossible e = let z : ◌≡◌ {A = ℕ} 0 1 = cc in omega arith
has-below n (x ∷ xs) b i h = by (eqb x i) refl h (has-below n xs b.1 i)
  where
    by : (t : Bool) → eqb x i ≡ t → (t || has xs i) ≡ true → (has xs i ≡ true → i < n) → i < n
    by true e q rest = omega (arith, eqb-true x i e, b.0)
    by false e q rest = rest q

abbrev pub zeros : ℕ → List ℕ
zeros n = replicate n 0

-- Marks of a blank list: within it, and past it where no place is.
pub blank-has : (n : ℕ) (xs : List ℕ) (i : ℕ) → i < n → is_marked (marked (zeros n) xs) i ≡ has xs i
blank-has n xs i h =
    let long : length (zeros n) ≡ n = length-replicate {A = ℕ} n 0 in
    marked-has (zeros n) xs i (omega arith) ∙ rw (get_or-replicate {A = ℕ} n i 0 0 h) (or_comm (has xs i) false)

pub blank-all : (n : ℕ) (xs : List ℕ) → Below n xs → (i : ℕ) → is_marked (marked (zeros n) xs) i ≡ has xs i
blank-all n xs b i = by (ltb i n) refl
  where
    by : (t : Bool) → ltb i n ≡ t → is_marked (marked (zeros n) xs) i ≡ has xs i
    by true e = blank-has n xs i (ltb-true i n e)
    by false e =
        let past : length (marked (zeros n) xs) ≤ i = omega
        (arith, marked-length (zeros n) xs, length-replicate {A = ℕ} n 0, ltb-false i n e) in
        rw (get_or-eq_default (marked (zeros n) xs) 0 {n = i} past) (sym (none (has xs i) (has-below n xs b i)))
      where
        none : (t : Bool) → (t ≡ true → i < n) → t ≡ false
        none true q = absurd (omega (arith, q refl, ltb-false i n e))
        none false q = refl
