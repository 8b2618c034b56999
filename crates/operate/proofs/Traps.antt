-- The value of an operation is a word, or 30, 31 or 34 in its place, which are data traps: by the tests of its definition.
use mathlib.Core.Bool.{Bool, true, ◌&&◌}
use mathlib.Core.Path.{◌≡◌, refl}
use Prim.Native.Nat.{ℕ}
use lib.Dec.{eqb, leb, ltb}
use lib.IntN.{ℤ, neg_ℤ}
use lib.Signed.{mag}
use mir.Syntax.{w32}
use mir.Val.{to_z}
use borrow.Author.Tests.{leb-true}
use Rattle.words.proofs.Tests.{either}
use Rattle.opcode.specs.declared.instruction.Arithmetic.{Arithmetic}
use Rattle.opcode.specs.declared.instruction.Operation.{Operation}
use Rattle.opcode.specs.declared.instruction.Operation.TheVariants.{Signed, Unsigned, Negate, Equal, NotEqual}
use Rattle.opcode.specs.declared.instruction.Operation.TheVariants.{CompareSigned, CompareUnsigned, Set, Not}
use Rattle.operate.specs.Operation.{operation_value}
use Rattle.operate.specs.Value.{is_boolean, is_unsigned, inverted_value, signed_word, unsigned_word, Value}
use Rattle.operate.specs.Arithmetic.{signed_number, unsigned_number, divides, signed_value, unsigned_value, negated_value}
use Rattle.operate.specs.Traps.{DataTrap}
use Rattle.std.specs.Prelude.{Ok, Err}
use Rattle.numbers.specs.declared.Trap.TheVariants.{OutOfRange}
use Rattle.numbers.specs.declared.Trap.{Trap}
use Rattle.numbers.specs.TrapNumber.{trap_number}

-- A number that is written out.
pub data-number : (n : ℕ) → leb 30 n ≡ true → leb n 38 ≡ true → DataTrap n
data-number n l r = record { lowest = leb-true 30 n l; highest = leb-true n 38 r }

pub data Valued : Value → Type 0 where
  a_word : {x : ℕ} → Valued (Ok x)
  a-trap : {t : Trap} → DataTrap (trap_number t) → Valued (Err t)

too_large : Valued (Err OutOfRange)
too_large = a-trap (data-number 31 refl refl)

signed_word_lem : (z : ℤ) → Valued (signed_word z)
unfolding signed_word
signed_word_lem z = either Valued (ltb (mag z) 0x8000_0000) _ _ a_word too_large

unsigned-word : (wraps : Bool) (z : ℤ) → Valued (unsigned_word wraps z)
unfolding unsigned_word
unsigned-word wraps z = either Valued (is_unsigned z) _ _ a_word (either Valued wraps _ _ a_word too_large)

pub signed-valued : (op : Arithmetic) (x y : ℕ) → Valued (signed_value op x y)
unfolding signed_value
signed-valued op x y =
    either Valued (divides op && eqb y 0) _ _ (a-trap (data-number 30 refl refl))
    (signed_word_lem (signed_number op (to_z w32 x) (to_z w32 y)))

unsigned-valued : (wraps : Bool) (op : Arithmetic) (x y : ℕ) → Valued (unsigned_value wraps op x y)
unfolding unsigned_value
unsigned-valued wraps op x y =
    either Valued (divides op && eqb y 0) _ _ (a-trap (data-number 30 refl refl)) (unsigned-word wraps (unsigned_number op x y))

negated-valued : (x : ℕ) → Valued (negated_value x)
unfolding negated_value
negated-valued x = signed_word_lem (neg_ℤ (to_z w32 x))

inverted-valued : (b : ℕ) → Valued (inverted_value b)
unfolding inverted_value
inverted-valued b = either Valued (is_boolean b) _ _ a_word (a-trap (data-number 34 refl refl))

pub operation-valued : (wraps : Bool) (op : Operation) (x y : ℕ) → Valued (operation_value wraps op x y)
unfolding operation_value
operation-valued wraps (Signed op) x y = signed-valued op x y
operation-valued wraps (Unsigned op) x y = unsigned-valued wraps op x y
operation-valued wraps Negate x y = negated-valued x
operation-valued wraps Equal x y = a_word
operation-valued wraps NotEqual x y = a_word
operation-valued wraps (CompareSigned order) x y = a_word
operation-valued wraps (CompareUnsigned order) x y = a_word
operation-valued wraps (Set op) x y = a_word
operation-valued wraps Not x y = inverted-valued x
