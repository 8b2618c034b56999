-- Unsigned results by both rules. 02, K11: "Both rules are kept and one statement over the rule covers the three operations."
use Rattle.std.specs.Prelude.{Bool, true, false, not, ◌≡◌, ℕ, suc, ◌+◌, ◌*◌, ◌<◌, ℤ, pos, negsuc, Ok, Err}
use Rattle.opcode.specs.declared.instruction.Arithmetic.{Arithmetic}
use Rattle.opcode.specs.declared.instruction.Operation.{Operation}
use Rattle.opcode.specs.declared.instruction.Operation.TheVariants.{Signed, Unsigned, Negate, Equal, NotEqual}
use Rattle.opcode.specs.declared.instruction.Operation.TheVariants.{CompareSigned, CompareUnsigned, Set, Not}
use Rattle.operate.specs.Value.{is_unsigned, Value}
use Rattle.operate.specs.Arithmetic.{unsigned_number, unsigned_value, divides}
use Rattle.operate.specs.Operation.{operation_value}
use Rattle.numbers.specs.declared.Trap.TheVariants.{OutOfRange}

-- A word and a number that differ by a multiple of 2^32.
abbrev pub RunsRound : ℤ → ℕ → Type 0
RunsRound (pos n) x = (k : ℕ) × (n ≡ x + k * 0x1_0000_0000)
RunsRound (negsuc n) x = (k : ℕ) × (x + suc n ≡ k * 0x1_0000_0000)

-- A word and the number that it is.
abbrev pub Equals : ℤ → ℕ → Type 0
Equals (pos n) x = n ≡ x
Equals (negsuc n) x = ⊥

-- What a number is given as: wrapped, always a word; else the number itself, or 31 where it is no word.
abbrev pub FollowsRule : (wraps : Bool) → ℤ → Value → Type 0
FollowsRule true z (Ok x) = (x < 0x1_0000_0000) × RunsRound z x
FollowsRule true z (Err t) = ⊥
FollowsRule false z (Ok x) = (x < 0x1_0000_0000) × Equals z x
FollowsRule false z (Err t) = (is_unsigned z ≡ false) × (t ≡ OutOfRange)

abbrev pub ThreeByRule : Type 0
ThreeByRule =
    (wraps : Bool) (op : Arithmetic) → divides op ≡ false → (x y : ℕ)
    → FollowsRule wraps (unsigned_number op x y) (unsigned_value wraps op x y)

-- 02, K11: "these three wrap".
abbrev pub wrapping : Operation → Bool
wrapping (Signed op) = false
wrapping (Unsigned op) = not (divides op)
wrapping Negate = false
wrapping Equal = false
wrapping NotEqual = false
wrapping (CompareSigned order) = false
wrapping (CompareUnsigned order) = false
wrapping (Set op) = false
wrapping Not = false

-- And no others: what any other operation gives for words is the same by either rule.
abbrev pub OnlyThreeWrap : Type 0
OnlyThreeWrap =
    (op : Operation) → wrapping op ≡ false → (x y : ℕ) → x < 0x1_0000_0000 → operation_value true op x y ≡ operation_value false op x y
