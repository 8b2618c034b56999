-- What an operation gives for the words that it finds (5.2.4.7 to 5.2.4.9), X and Y in the order of the manual: POP (Y); POP (X).
use Rattle.std.specs.Prelude.{Bool, not, ℕ, eqb, Ok}
use Rattle.opcode.specs.declared.instruction.Operation.{Operation}
use Rattle.opcode.specs.declared.instruction.Operation.TheVariants.{Signed, Unsigned, Negate, Equal, NotEqual}
use Rattle.opcode.specs.declared.instruction.Operation.TheVariants.{CompareSigned, CompareUnsigned, Set, Not}
use Rattle.operate.specs.Value.{truth_of, inverted_value, Value}
use Rattle.operate.specs.Arithmetic.{signed_value, unsigned_value, negated_value}
use Rattle.operate.specs.Compare.{signed_test, unsigned_test}
use Rattle.operate.specs.Sets.{set_word}

-- One that finds one word looks at x alone; only an unsigned result asks whether it wraps.
unfoldable pub operation_value : (wraps : Bool) → Operation → ℕ → ℕ → Value
operation_value wraps (Signed op) x y = signed_value op x y
operation_value wraps (Unsigned op) x y = unsigned_value wraps op x y
operation_value wraps Negate x y = negated_value x
operation_value wraps Equal x y = Ok (truth_of (eqb x y))
operation_value wraps NotEqual x y = Ok (truth_of (not (eqb x y)))
operation_value wraps (CompareSigned order) x y = Ok (truth_of (signed_test order x y))
operation_value wraps (CompareUnsigned order) x y = Ok (truth_of (unsigned_test order x y))
operation_value wraps (Set op) x y = Ok (set_word op x y)
operation_value wraps Not x y = inverted_value x
