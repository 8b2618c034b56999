-- Words as signed numbers: which are above 0, and which word is the negation of one.
use mathlib.Core.Bool.{Bool, true, false}
use mathlib.Core.Path.{◌≡◌, refl}
use Prim.Native.Nat.{ℕ, ◌+◌, ◌%◌, ◌<◌}
use native.Mathlib.Omega.{arith}
use borrow.Author.Tests.{eqb-true, eqb-false}
use lib.Dec.{ltb, eqb}
use lib.IntN.{pos}
use lib.Signed.{lt_z}
use mir.Syntax.{w32}
use mir.Val.{to_z}
use Rattle.registers.specs.Memory.{above_zero, negated}

pub sign : (x : ℕ) → lt_z (pos 0) (to_z w32 x) ≡ above_zero x
unfolding above_zero
sign x = by (ltb x 0x8000_0000) (ltb 0 x) refl refl
  where
    by : (t u : Bool) → ltb x 0x8000_0000 ≡ t → ltb 0 x ≡ u → lt_z (pos 0) (to_z w32 x) ≡ above_zero x
    by true true e f = rw (e, f)
    by true false e f = rw (e, f)
    by false true e f = rw (e, f)
    by false false e f = rw (e, f)

-- What adds up with it to 0 round 2^32.
pub negation : (x r : ℕ) → x < 0x1_0000_0000 → r < 0x1_0000_0000 → (r + x) % 0x1_0000_0000 ≡ 0 → r ≡ negated x
unfolding negated
negation x r f g h = by (eqb x 0) refl
  where
    by : (t : Bool) → eqb x 0 ≡ t → r ≡ negated x
    by true e = let z : x ≡ 0 = eqb-true x 0 e in rw e (omega (arith, z, f, g, h))
    by false e = rw e (omega (arith, eqb-false x 0 e, f, g, h))
