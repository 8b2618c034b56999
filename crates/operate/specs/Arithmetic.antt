-- Signed and unsigned arithmetic (5.2.4.7 a and b), X and Y in the order of the manual: POP (Y); POP (X).
use Rattle.std.specs.Prelude.{Bool, true, false, cond, ◌&&◌, ◌||◌, ℕ, ◌+◌, ◌*◌, ◌/◌, ◌%◌, eqb, ℤ, pos, neg_ℤ, nat_abs, ◌+ℤ◌, ◌-ℤ◌, ◌*ℤ◌}
use Rattle.std.specs.Bool.{beq}
use Rattle.std.specs.Int.Signed.{quot_z, rem_z, non_neg}
use Rattle.std.specs.Int.{w32}
use Rattle.std.proofs.Common.{to_z}
use Rattle.opcode.specs.declared.instruction.Arithmetic.{Arithmetic}
use Rattle.opcode.specs.declared.instruction.Arithmetic.TheVariants.{Add, Subtract, Multiply, Divide, Modulus}
use Rattle.operate.specs.Value.{signed_word, unsigned_word, Value}
use Rattle.std.specs.Prelude.{Err}
use Rattle.numbers.specs.declared.Trap.TheVariants.{ZeroDivisor}

-- 01: "Modulus follows Ada's mod or rem, as the manual's line is written" (it writes mod): the remainder, and with the divisor added
-- where its sign is not the divisor's.
abbrev pub matched : ℤ → ℤ → ℤ
matched r y = cond (eqb (nat_abs r) 0 || beq (non_neg r) (non_neg y)) r (r +ℤ y)

unfoldable pub mod_z : ℤ → ℤ → ℤ
mod_z x y = matched (rem_z x y) y

-- 01: "Divide rounds toward zero."
abbrev pub signed_number : Arithmetic → ℤ → ℤ → ℤ
signed_number Add x y = x +ℤ y
signed_number Subtract x y = x -ℤ y
signed_number Multiply x y = x *ℤ y
signed_number Divide x y = quot_z x y
signed_number Modulus x y = mod_z x y

abbrev pub unsigned_number : Arithmetic → ℕ → ℕ → ℤ
unsigned_number Add x y = pos (x + y)
unsigned_number Subtract x y = pos x -ℤ pos y
unsigned_number Multiply x y = pos (x * y)
unsigned_number Divide x y = pos (x / y)
unsigned_number Modulus x y = pos (x % y)

abbrev pub divides : Arithmetic → Bool
divides Add = false
divides Subtract = false
divides Multiply = false
divides Divide = true
divides Modulus = true

-- 30 is "zero divisor".
unfoldable pub signed_value : Arithmetic → ℕ → ℕ → Value
signed_value op x y = cond (divides op && eqb y 0) (Err ZeroDivisor) (signed_word (signed_number op (to_z w32 x) (to_z w32 y)))

unfoldable pub unsigned_value : (wraps : Bool) → Arithmetic → ℕ → ℕ → Value
unsigned_value wraps op x y = cond (divides op && eqb y 0) (Err ZeroDivisor) (unsigned_word wraps (unsigned_number op x y))

unfoldable pub negated_value : ℕ → Value
negated_value x = signed_word (neg_ℤ (to_z w32 x))
