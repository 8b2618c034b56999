-- One-word sets (5.2.4.7 e, 5.2.4.8 f). The manual's chapter 4: bit n is the member n, by its significance in the word.
use Rattle.std.specs.Prelude.{cond, ℕ, suc, ◌-◌, ◌/◌, ◌%◌, ◌^◌, eqb, ltb}
use Rattle.std.specs.Int.Bits.{bit_and, bit_or}
use Rattle.operate.specs.Value.{truth_of}
use Rattle.opcode.specs.declared.instruction.SetOperation.{SetOperation}
use Rattle.opcode.specs.declared.instruction.SetOperation.TheVariants.{Union, Difference, Intersection, Subset, Superset, Member}

-- X and not Y.
abbrev pub difference : ℕ → ℕ → ℕ
difference x y = bit_and x (0x1_0000_0000 - suc y)

-- TEST has the number X and the set Y. 01: "TEST's number is signed": as a word, a negative number is above 31 too.
unfoldable pub set_word : SetOperation → ℕ → ℕ → ℕ
set_word Union x y = bit_or x y
set_word Difference x y = difference x y
set_word Intersection x y = bit_and x y
set_word Subset x y = truth_of (eqb (difference x y) 0)
set_word Superset x y = truth_of (eqb (difference y x) 0)
set_word Member x y = cond (ltb x 32) (y / 2 ^ x % 2) 0
