-- A word or a trap, and when a number is a word. 01: "An arithmetic result outside its 32-bit range traps"; 31 is "number does not
-- fit".
use Rattle.std.specs.Prelude.{Bool, false, cond, ℕ, ◌-◌, ◌%◌, ltb, ℤ, pos, negsuc, nat_abs, Ok, Err, Result}
use Rattle.std.specs.Int.Signed.{mag}
use Rattle.std.specs.Int.{w32}
use Rattle.std.proofs.Common.{of_z}
use Rattle.numbers.specs.declared.Trap.TheVariants.{OutOfRange, NotBoolean}
use Rattle.numbers.specs.declared.Trap.{Trap}

abbrev pub Value : Type 0
Value = Result ℕ Trap

-- The numbers of a signed word, from -2^31 to 2^31 - 1: `mag z` is n both for n and for -(n + 1).
abbrev pub is_signed : ℤ → Bool
is_signed z = ltb (mag z) 0x8000_0000

unfoldable pub signed_word : ℤ → Value
signed_word z = cond (is_signed z) (Ok (of_z w32 z)) (Err OutOfRange)

-- The numbers of an unsigned word: from 0 to 2^32 - 1.
abbrev pub is_unsigned : ℤ → Bool
is_unsigned (pos n) = ltb n 0x1_0000_0000
is_unsigned (negsuc n) = false

-- 02, K11: "running round at 2 to the power 32": the word that differs from a number by a multiple of 2^32.
abbrev pub wrapped : ℤ → ℕ
wrapped (pos n) = n % 0x1_0000_0000
wrapped (negsuc n) = 0xFFFF_FFFF - n % 0x1_0000_0000

-- "Both rules are kept": where an unsigned result is no word, by the issue of its module, the word that it wraps to or the trap.
abbrev pub by_rule : (wraps : Bool) → ℕ → Value
by_rule wraps x = cond wraps (Ok x) (Err OutOfRange)

unfoldable pub unsigned_word : (wraps : Bool) → ℤ → Value
unsigned_word wraps z = cond (is_unsigned z) (Ok (nat_abs z)) (by_rule wraps (wrapped z))

-- 01: "A boolean is 0 or 1."
abbrev pub truth_of : Bool → ℕ
truth_of t = cond t 1 0

abbrev pub is_boolean : ℕ → Bool
is_boolean b = ltb b 2

-- NEG. 34 is "not a boolean".
unfoldable pub inverted_value : ℕ → Value
inverted_value b = cond (is_boolean b) (Ok (1 - b)) (Err NotBoolean)
