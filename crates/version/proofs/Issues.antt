-- The order of issues: no revision is below the hyphen's, so of the issues before 3/- the number tells; and it is seen in the two
-- characters, since a digit past 0 in the first makes 10 of it.
use mathlib.Core.Bool.{Bool, true, false, ◌&&◌, ◌||◌}
use mathlib.Core.List.{List}
use mathlib.Core.Path.{◌≡◌, ◌∙◌, refl, sym}
use Prim.Native.Nat.{ℕ, ◌+◌, ◌*◌, ◌-◌, ◌≤◌, ◌<◌}
use native.Mathlib.Omega.{arith}
use borrow.Author.Tests.{ltb-true, ltb-false, lt-ltb, le-ltb, ne_eqb, eqb-true}
use lib.Dec.{eqb, ltb}
use Rattle.words.specs.Bytes.{byte_at}
use Rattle.words.proofs.Tests.{by-test}
use Rattle.version.specs.Issue.{digit_of, issue_of, earlier, issue3, later_words, NumberDecides, IssuesRise}

-- A test that is never passed adds nothing.
nothing-more : (b c : Bool) → (b || (c && false)) ≡ b
nothing-more true c = refl
nothing-more false true = refl
nothing-more false false = refl

pub number-decides : NumberDecides
number-decides a = rw (le-ltb a.revision 0 (omega arith)) (nothing-more (ltb a.number 3) (eqb a.number 3))

pub issues-rise : IssuesRise
unfolding issue_of later_words
issues-rise = refl

-- The first character x: past '0' it makes 10.
tens : (x : ℕ) → 48 < x → 1 ≤ digit_of x
tens x h = rw (ne_eqb x 32 (λ e. omega (arith, e))) (omega arith)

no-tens : (x : ℕ) → x ≤ 48 → digit_of x ≡ 0
no-tens x h = by-test (λ n. n ≡ 0) (eqb x 32) 0 (x - 48) (λ e. refl) (λ e. omega arith)

-- The second character y.
below-3 : (y n : ℕ) → n ≡ 0 → (t : Bool) → ltb y 51 ≡ t → ltb (10 * n + digit_of y) 3 ≡ t
below-3 y n e true h =
    lt-ltb (10 * n + digit_of y) 3
    (by-test (λ k. 10 * n + k < 3) (eqb y 32) 0 (y - 48) (λ s. omega (arith, e)) (λ s. omega (arith, e, ltb-true y 51 h)))
below-3 y n e false h =
    le-ltb (10 * n + digit_of y) 3
    (by-test (λ k. 3 ≤ 10 * n + k) (eqb y 32) 0 (y - 48) (λ s. absurd (omega (arith, eqb-true y 32 s, ltb-false y 51 h)))
    (λ s. omega (arith, ltb-false y 51 h)))

module _ (r : List ℕ) (i : ℕ) where
  pub past-tens : 48 < byte_at r i → false ≡ earlier (issue_of r i) issue3
  unfolding issue_of
  past-tens h =
      sym (number-decides (issue_of r i)
      ∙ le-ltb (10 * digit_of (byte_at r i) + digit_of (byte_at r (i + 1))) 3 (omega (arith, tens (byte_at r i) h)))

  pub units-tell : byte_at r i ≤ 48 → ltb (byte_at r (i + 1)) 51 ≡ earlier (issue_of r i) issue3
  unfolding issue_of
  units-tell h =
      sym (number-decides (issue_of r i)
      ∙ below-3 (byte_at r (i + 1)) (digit_of (byte_at r i)) (no-tens (byte_at r i) h) (ltb (byte_at r (i + 1)) 51) refl)
