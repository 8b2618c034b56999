-- Order tests on signed and unsigned words (5.2.4.8 b and c).
use Rattle.std.specs.Prelude.{Bool, ℕ, leb, ltb}
use Rattle.std.specs.Int.Signed.{le_z, lt_z}
use Rattle.std.specs.Int.{w32}
use Rattle.std.proofs.Common.{to_z}
use Rattle.opcode.specs.declared.instruction.Order.{Order}
use Rattle.opcode.specs.declared.instruction.Order.TheVariants.{Less, Greater, LessEqual, GreaterEqual}

abbrev pub signed_test : Order → ℕ → ℕ → Bool
signed_test Less x y = lt_z (to_z w32 x) (to_z w32 y)
signed_test Greater x y = lt_z (to_z w32 y) (to_z w32 x)
signed_test LessEqual x y = le_z (to_z w32 x) (to_z w32 y)
signed_test GreaterEqual x y = le_z (to_z w32 y) (to_z w32 x)

abbrev pub unsigned_test : Order → ℕ → ℕ → Bool
unsigned_test Less x y = ltb x y
unsigned_test Greater x y = ltb y x
unsigned_test LessEqual x y = leb x y
unsigned_test GreaterEqual x y = leb y x
