-- What is decoded, from the row of the code byte: an instruction that ends within the code.
use mathlib.Core.Path.{◌≡◌}
use mathlib.Core.Bool.{true}
use mathlib.Core.List.{List}
use Prim.Native.Nat.{ℕ, ◌+◌, ◌/◌, ◌≤◌, ◌<◌}
use native.Mathlib.Omega.{arith}
use lib.ListN.{length}
use borrow.Author.Tests.{ne_eqb, lt-ltb}
use Rattle.words.specs.Bytes.{byte_at}
use Rattle.operand.specs.Operand.{Operands, extent, operand, operand2}
use Rattle.opcode.specs.Table.{Modes, allows, row, find, short_table, row_of}
use Rattle.opcode.specs.Length.{length_in}
use Rattle.opcode.specs.Decode.{instruction_at, decode_at}
use Rattle.std.specs.Prelude.{Ok}
use Rattle.opcode.specs.declared.instruction.Instruction.{Instruction}
use Rattle.opcode.specs.declared.instruction.Mode.{Mode}
use Rattle.opcode.specs.declared.instruction.Mode.TheVariants.{Normal, Double}
use Rattle.opcode.proofs.Found.{Found, single, double, decoded}

module _ (code : List ℕ) (operands : Operands) (modes : Modes) (make : Mode → ℕ → ℕ → Instruction) where
  in-mode : (mode : Mode) (limit at next : ℕ) → row_of (byte_at code at) ≡ row operands modes make → allows modes mode ≡ true
      → at < next
      → next ≡ at + extent operands code at → next ≤ limit
      → Found mode code limit at (make mode (operand operands code at) (operand2 operands code at)) next
  unfolding length_in instruction_at
  in-mode mode limit at next e a l n w =
      record { served = rw (e, a) (λ z. omega arith); same = rw e; ends = rw (e, a) (omega arith); within = w }

  pub decodes : (at next : ℕ) → row_of (byte_at code at) ≡ row operands modes make → (byte_at code at ≡ 0xF5 → ⊥)
      → allows modes Normal ≡ true
      → at < next → next ≡ at + extent operands code at → next ≤ length code
      → decode_at code (length code) at ≡ Ok ((make Normal (operand operands code at) (operand2 operands code at)), next)
  decodes at next e f a l n w = decoded code (length code) _ next at (single f (in-mode Normal (length code) at next e a l n w))

  pub decodes-double : (at next : ℕ) → byte_at code at ≡ 0xF5 → row_of (byte_at code (at + 1)) ≡ row operands modes make
      → allows modes Double ≡ true → at + 1 < next → next ≡ at + 1 + extent operands code (at + 1) → next ≤ length code
      → decode_at code (length code) at
      ≡ Ok (make Double (operand operands code (at + 1)) (operand2 operands code (at + 1)), next)
  decodes-double at next f e a l n w =
      decoded code (length code) _ next at (double f (in-mode Double (length code) (at + 1) next e a l n w))

-- The row of a short form.
pub short_row : (b k : ℕ) → b < 0x70 → b / 16 ≡ k → row_of b ≡ find short_table k
unfolding row_of
short_row b k l e = rw (ne_eqb b 0x70 (omega arith), lt-ltb b 0x80 (omega arith), e)
