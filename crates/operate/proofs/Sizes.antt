-- How large the result of an operation on two signed words can be: it fits 64 bits whatever the operation is.
use Prim.Native.Nat.{ℕ, zero, suc, ◌+◌, ◌*◌, ◌-◌, ◌/◌, ◌≤◌}
use mathlib.Core.Bool.{Bool, cond, beq, ◌||◌}
use native.Mathlib.Omega.{arith}
use native.Mathlib.Nat.{le_trans, mul-le-mul, div-le_self}
use lib.IntN.{ℤ, pos, negsuc, neg_ℤ, nat_abs, sub_ℕ, ◌+ℤ◌, ◌*ℤ◌}
use lib.Dec.{ltb, eqb}
use lib.Signed.{mag, quot_z, rem_z, non_neg, mag_rem}
use mir.Syntax.{w32, w64}
use mir.Val.{SFits}
use Rattle.words.proofs.Tests.{either}
use Rattle.opcode.specs.declared.instruction.Arithmetic.{Arithmetic}
use Rattle.opcode.specs.declared.instruction.Arithmetic.TheVariants.{Add, Subtract, Multiply, Divide, Modulus}
use Rattle.operate.specs.Arithmetic.{signed_number, matched, mod_z}

mag-cond : (t : Bool) (x y : ℤ) → mag (cond t x y) ≤ mag x + mag y
mag-cond t x y = either (λ (z : ℤ). mag z ≤ mag x + mag y) t x y (omega arith) (omega arith)

mag-sub : (a b : ℕ) → mag (sub_ℕ a b) ≤ a + b
mag-sub a b = omega (arith, mag-cond (ltb a b) (negsuc (b - suc a)) (pos (a - b)))

mag-neg : (k : ℕ) → mag (neg_ℤ (pos k)) ≤ k
mag-neg zero = omega arith
mag-neg (suc k) = omega arith

mag-negℤ : (z : ℤ) → mag (neg_ℤ z) ≤ mag z + 1
mag-negℤ (pos n) = omega (arith, mag-neg n)
mag-negℤ (negsuc n) = omega arith

mag-add : (a b : ℤ) → mag (a +ℤ b) ≤ mag a + mag b + 1
mag-add (pos a) (pos b) = omega arith
mag-add (pos a) (negsuc b) = omega (arith, mag-sub a (suc b))
mag-add (negsuc a) (pos b) = omega (arith, mag-sub b (suc a))
mag-add (negsuc a) (negsuc b) = omega arith

mag-mul : (a b : ℤ) → mag (a *ℤ b) ≤ suc (mag a) * suc (mag b)
mag-mul (pos a) (pos b) = mul-le-mul (omega arith) (omega arith)
mag-mul (pos a) (negsuc b) = le_trans (mag-neg (a * suc b)) (mul-le-mul (omega arith) (omega arith))
mag-mul (negsuc a) (pos b) = le_trans (mag-neg (suc a * b)) (mul-le-mul (omega arith) (omega arith))
mag-mul (negsuc a) (negsuc b) = omega arith

mag-quot : (a b : ℤ) → mag (quot_z a b) ≤ suc (mag a)
mag-quot (pos a) (pos b) = omega (arith, div-le_self a b)
mag-quot (pos a) (negsuc b) = omega (arith, mag-neg (a / suc b), div-le_self a (suc b))
mag-quot (negsuc a) (pos b) = omega (arith, mag-neg (suc a / b), div-le_self (suc a) b)
mag-quot (negsuc a) (negsuc b) = div-le_self (suc a) (suc b)

mag-matched : (r d : ℤ) → mag (matched r d) ≤ mag r + (mag r + mag d + 1)
mag-matched r d =
    le_trans (mag-cond (eqb (nat_abs r) 0 || beq (non_neg r) (non_neg d)) r (r +ℤ d)) (omega (arith, mag-add r d))

mag-mod : (a b : ℤ) → mag (mod_z a b) ≤ mag a + (mag a + mag b + 1)
unfolding mod_z
mag-mod a b = le_trans (mag-matched (rem_z a b) b) (omega (arith, mag_rem a b))

-- A remainder is no larger than what is divided.
pub rest-fits : (a b : ℤ) → SFits w32 a → SFits w32 (rem_z a b)
rest-fits a b f = record { sfits = omega (arith, mag_rem a b, f.sfits) }

pub result_fits : (op : Arithmetic) (a b : ℤ) → SFits w32 a → SFits w32 b → SFits w64 (signed_number op a b)
result_fits Add a b f g = record { sfits = omega (arith, mag-add a b, f.sfits, g.sfits) }
result_fits Subtract a b f g = record { sfits = omega (arith, mag-add a (neg_ℤ b), mag-negℤ b, f.sfits, g.sfits) }
result_fits Multiply a b f g = record { sfits = omega (arith, mag-mul a b, mul-le-mul f.sfits g.sfits) }
result_fits Divide a b f g = record { sfits = omega (arith, mag-quot a b, f.sfits) }
result_fits Modulus a b f g = record { sfits = omega (arith, mag-mod a b, f.sfits, g.sfits) }
