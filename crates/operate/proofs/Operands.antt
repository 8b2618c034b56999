-- The two operands of an operation, read as 64-bit numbers: the result fits, and it is what the definition says.
use Prim.Native.Nat.{ℕ, ◌<◌}
use mathlib.Core.Bool.{false, ◌&&◌}
use mathlib.Core.Path.{◌≡◌}
use native.Mathlib.Omega.{arith}
use lib.Dec.{eqb}
use lib.IntN.{ℤ, pos, negsuc}
use mir.Syntax.{w32, w64}
use mir.Val.{Fits, SFits, to_z, of_z}
use mir.Facts.{sfits_to_z, sfits_widen, to_z-of_z, of_z-to_z}
use Rattle.opcode.specs.declared.instruction.Arithmetic.{Arithmetic}
use Rattle.operate.specs.Arithmetic.{signed_number, signed_value, divides}
use Rattle.operate.specs.Value.{signed_word}
use Rattle.operate.proofs.Sizes.{result_fits}

pub stays : {z : ℤ} → SFits w32 z → to_z w64 (of_z w64 z) ≡ z
stays {z = z} f = to_z-of_z {w = w64} {z = z} (sfits_widen {w = w32} {w' = w64} {z = z} (tt {0}) f)

nonzero : (z : ℤ) → SFits w32 z → (of_z w32 z ≡ 0 → ⊥) → 0 < of_z w64 z
nonzero (pos n) f h = omega arith
nonzero (negsuc n) f h = omega (arith, f.sfits)

-- One operand: a is the word x, read as signed.
module _ {x : ℕ} {a : ℤ} (f : Fits w32 x) (p : a ≡ to_z w32 x) where
  pub read : to_z w64 (of_z w64 a) ≡ to_z w32 x
  read = rw p (stays (sfits_to_z f))

  pub read_fits : SFits w32 (to_z w64 (of_z w64 a))
  read_fits = rw read (sfits_to_z f)

  pub divisor : (x ≡ 0 → ⊥) → 0 < of_z w64 a
  divisor h = rw p (nonzero (to_z w32 x) (sfits_to_z f) (rw (of_z-to_z f) h))

-- Two operands.
module _ (op : Arithmetic) {x y : ℕ} {a b : ℤ} (f : Fits w32 x) (p : a ≡ to_z w32 x) (g : Fits w32 y) (q : b ≡ to_z w32 y) where
  pub operands-fit : SFits w64 (signed_number op (to_z w64 (of_z w64 a)) (to_z w64 (of_z w64 b)))
  operands-fit = result_fits op _ _ (read_fits f p) (read_fits g q)

  -- The number z is the result.
  pub value-is : (z : ℤ) → divides op && eqb y 0 ≡ false → z ≡ signed_number op (to_z w64 (of_z w64 a)) (to_z w64 (of_z w64 b))
      → signed_word z ≡ signed_value op x y
  unfolding signed_value
  value-is z e h = rw (e, h, read f p, read g q)

  pub stored_is : divides op && eqb y 0 ≡ false
      → signed_word (to_z w64 (of_z w64 (signed_number op (to_z w64 (of_z w64 a)) (to_z w64 (of_z w64 b))))) ≡ signed_value op x y
  stored_is e = value-is _ e (to_z-of_z operands-fit)
