-- Which number is the modulus: the remainder where it is 0 or has the divisor's sign, and else the sum with the divisor.
use Prim.Native.Nat.{suc}
use mathlib.Core.Bool.{Bool, true, false, not, cond, ◌||◌}
use mathlib.Core.Path.{◌≡◌, refl, ◌∙◌}
use native.Mathlib.Omega.{arith}
use borrow.Author.Tests.{le-ltb, ne_eqb}
use lib.IntN.{ℤ, pos, negsuc, ◌+ℤ◌}
use lib.Signed.{lt_z, rem_z, non_neg}
use mir.Syntax.{w32, w64}
use mir.Val.{SFits, to_z, of_z}
use mir.Facts.{to_z-of_z}
use Rattle.opcode.specs.declared.instruction.Arithmetic.TheVariants.{Add}
use Rattle.operate.specs.Arithmetic.{matched, mod_z}
use Rattle.operate.proofs.Sizes.{rest-fits, result_fits}
use Rattle.operate.proofs.Operands.{stays}

either : (t : Bool) (r s : ℤ) → cond (t || true) r s ≡ r
either true r s = refl
either false r s = refl

zero-matched : (r d : ℤ) → SFits w32 r → of_z w64 r ≡ 0 → r ≡ matched r d
zero-matched (pos n) d f h = rw h
zero-matched (negsuc n) d f h = absurd (omega (arith, f.sfits))

same-matched : (r d : ℤ) → non_neg r ≡ non_neg d → r ≡ matched r d
same-matched (pos m) (pos n) h = rw either
same-matched (pos m) (negsuc n) h = cc
same-matched (negsuc m) (pos n) h = cc
same-matched (negsuc m) (negsuc n) h = rw either

other-matched : (r d : ℤ) → (of_z w64 r ≡ 0 → ⊥) → non_neg r ≡ not (non_neg d) → r +ℤ d ≡ matched r d
other-matched (pos m) (pos n) z h = cc
other-matched (pos m) (negsuc n) z h = rw (ne_eqb m 0 z)
other-matched (negsuc m) (pos n) z h = rw (ne_eqb (suc m) 0 (λ e. omega arith))
other-matched (negsuc m) (negsuc n) z h = cc

sign : (z : ℤ) → non_neg z ≡ not (lt_z z (pos 0))
sign (pos n) = rw (le-ltb n 0 (omega arith))
sign (negsuc n) = refl

module _ {a b : ℤ} (f : SFits w32 a) (g : SFits w32 b) where
  rest : to_z w64 (of_z w64 (rem_z a b)) ≡ rem_z a b
  rest = stays (rest-fits a b f)

  pub rest-zero : of_z w64 (rem_z a b) ≡ 0 → to_z w64 (of_z w64 (rem_z a b)) ≡ mod_z a b
  unfolding mod_z
  rest-zero h = rest ∙ zero-matched (rem_z a b) b (rest-fits a b f) h

  pub rest-same : lt_z (to_z w64 (of_z w64 (rem_z a b))) (pos 0) ≡ lt_z b (pos 0) → to_z w64 (of_z w64 (rem_z a b)) ≡ mod_z a b
  unfolding mod_z
  rest-same h = rest ∙ same-matched (rem_z a b) b (rw (sign (rem_z a b), sign b, ← rest, h))

  pub sum_fits : SFits w64 (to_z w64 (of_z w64 (rem_z a b)) +ℤ b)
  sum_fits = rw rest (result_fits Add (rem_z a b) b (rest-fits a b f) g)

  pub rest-other : (of_z w64 (rem_z a b) ≡ 0 → ⊥) → lt_z (to_z w64 (of_z w64 (rem_z a b))) (pos 0) ≡ not (lt_z b (pos 0))
      → to_z w64 (of_z w64 (to_z w64 (of_z w64 (rem_z a b)) +ℤ b)) ≡ mod_z a b
  unfolding mod_z
  rest-other z h =
      to_z-of_z sum_fits ∙ rw rest (other-matched (rem_z a b) b z (rw (sign (rem_z a b), sign b, ← rest, h)))
