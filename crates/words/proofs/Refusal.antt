-- What a refusal says of its tests: without a number none of them is given, a number is at most the largest, and of tests behind
-- other tests these decide first. By induction on the tests; whether their numbers are as asked is computed. The lower of two
-- numbers: 0 gives way on either side, of three it is the same which two come first, and it is
-- none where both are none.
use mathlib.Core.Bool.{Bool, true, false, cond, ◌&&◌, and-eq-true_iff}
use mathlib.Core.List.{List, [], ◌∷◌, ◌++◌}
use mathlib.Core.Path.{◌≡◌, ◌∙◌, refl, sym}
use Prim.Native.Nat.{ℕ, zero, suc, ◌≤◌, zero-le, min}
use native.Mathlib.Omega.{arith}
use lib.Dec.{leb, ltb, eqb}
use borrow.Author.Tests.{leb-true, ltb-true, ltb-false, ne_eqb}
use Rattle.words.specs.Refusal.{Test, ◌when◌, refusal, lower}
use Rattle.words.proofs.Tests.{either, by-test}

-- None of the tests holds.
abbrev pub Clear : List Test → Type 0
Clear [] = Unit {0}
Clear (n when holds ∷ rest) = (holds ≡ false) × Clear rest

-- Every number is at least 1; every number is at most k.
abbrev pub positive : List Test → Bool
positive [] = true
positive (n when holds ∷ rest) = leb 1 n && positive rest

abbrev pub within : ℕ → List Test → Bool
within k [] = true
within k (n when holds ∷ rest) = leb n k && within k rest

pass : (n : ℕ) (holds : Bool) (rest : ℕ) → 1 ≤ n → cond holds n rest ≡ 0 → (holds ≡ false) × (rest ≡ 0)
pass n true rest h e = absurd (omega arith)
pass n false rest h e = (refl, e)

pub cleared : (tests : List Test) → positive tests ≡ true → refusal tests ≡ 0 → Clear tests
cleared [] p e = tt
cleared (n when holds ∷ rest) p e =
    let q = (and-eq-true_iff (leb 1 n) (positive rest)).0 p in
    let a = pass n holds (refusal rest) (leb-true 1 n q.0) e in
    (a.0, cleared rest q.1 a.1)

pub most : (k : ℕ) (tests : List Test) → within k tests ≡ true → refusal tests ≤ k
most k [] w = zero-le
most k (n when holds ∷ rest) w =
    let q = (and-eq-true_iff (leb n k) (within k rest)).0 w in
    either (λ (i : ℕ). i ≤ k) holds n (refusal rest) (leb-true n k q.0) (most k rest q.1)

pub refusal-append : (tests more : List Test) → positive tests ≡ true →
    refusal (tests ++ more) ≡ cond (eqb (refusal tests) 0) (refusal more) (refusal tests)
refusal-append [] more p = refl
refusal-append (n when true ∷ rest) more p =
    let some = leb-true 1 n ((and-eq-true_iff (leb 1 n) (positive rest)).0 p).0 in
    rw (ne_eqb n 0 (λ e. omega arith))
refusal-append (n when false ∷ rest) more p = refusal-append rest more ((and-eq-true_iff (leb 1 n) (positive rest)).0 p).1

pub lower-left : (b : ℕ) → lower 0 b ≡ b
unfolding lower
lower-left b = refl

pub lower-none : (a : ℕ) → lower a 0 ≡ a
unfolding lower
lower-none zero = refl
lower-none (suc a) = rw (ne_eqb (suc a) 0 (λ e. omega arith))

lower-some : (a b : ℕ) → lower (suc a) (suc b) ≡ suc (min a b)
unfolding lower
lower-some a b =
    rw (ne_eqb (suc a) 0 (λ e. omega arith), ne_eqb (suc b) 0 (λ e. omega arith))
    (by-test (λ (n : ℕ). n ≡ suc (min a b)) (ltb (suc b) (suc a)) (suc b) (suc a)
    (λ e. omega (arith, ltb-true (suc b) (suc a) e)) (λ e. omega (arith, ltb-false (suc b) (suc a) e)))

pub lower-assoc : (a b c : ℕ) → lower (lower a b) c ≡ lower a (lower b c)
lower-assoc zero b c = rw (lower-left b, lower-left (lower b c))
lower-assoc (suc a) zero c = rw (lower-none (suc a), lower-left c)
lower-assoc (suc a) (suc b) zero = rw (lower-none (lower (suc a) (suc b)), lower-none (suc b))
lower-assoc (suc a) (suc b) (suc c) =
    rw (lower-some a b, lower-some b c, lower-some (min a b) c, lower-some a (min b c)) (omega arith)

pub lower-clear : (a b : ℕ) → lower a b ≡ 0 → (a ≡ 0) × (b ≡ 0)
lower-clear zero b e = (refl, sym (lower-left b) ∙ e)
lower-clear (suc a) zero e = absurd (omega (arith, lower-none (suc a)))
lower-clear (suc a) (suc b) e = absurd (omega (arith, lower-some a b))
