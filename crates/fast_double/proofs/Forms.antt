-- What is decoded in each form, at once or behind DOUBLE: by the row of the code byte and where its operand ends.
use mathlib.Core.Path.{◌≡◌, ◌∙◌, sym}
use mathlib.Core.Bool.{true, false}
use mathlib.Core.List.{List}
use Prim.Native.Nat.{ℕ, ◌+◌, ◌/◌, ◌%◌, ◌≤◌, ◌<◌}
use native.Mathlib.Omega.{arith}
use lib.Dec.{eqb}
use lib.ListN.{length}
use borrow.Author.Tests.{eqb-false}
use Rattle.words.specs.Bytes.{byte_at, halfword_at}
use Rattle.operand.specs.Operand.{Operands, digit, unsigned, b as byte, h as half, extent, operand, operand2}
use Rattle.opcode.specs.Table.{Modes, allows, row, find, short_table, row_of}
use Rattle.opcode.specs.Decode.{decode_at}
use Rattle.std.specs.Prelude.{Ok}
use Rattle.opcode.specs.declared.instruction.Instruction.{Instruction}
use Rattle.opcode.specs.declared.instruction.Mode.{Mode}
use Rattle.opcode.specs.declared.instruction.Mode.TheVariants.{Normal, Double}
use Rattle.fast.proofs.Decoding.{decodes, decodes-double, short_row}

-- Where the code byte stands.
pub data Starts (code : List ℕ) (pc : ℕ) : Mode → ℕ → Type 0 where
  at_once : (byte_at code pc ≡ 0xF5 → ⊥) → Starts code pc Normal pc
  behind : byte_at code pc ≡ 0xF5 → Starts code pc Double (pc + 1)

module _ (code : List ℕ) (pc : ℕ) (operands : Operands) (modes : Modes) (make : Mode → ℕ → ℕ → Instruction) where
  in-form : (mode : Mode) (at next : ℕ) → Starts code pc mode at → row_of (byte_at code at) ≡ row operands modes make
      → allows modes mode ≡ true → at < next → next ≡ at + extent operands code at → next ≤ length code
      → decode_at code (length code) pc ≡ Ok ((make mode (operand operands code at) (operand2 operands code at)), next)
  in-form Normal at next (at_once f) r a l n w = decodes code operands modes make pc next r f a l n w
  in-form Double at next (behind f) r a l n w = decodes-double code operands modes make pc next f r a l n w

  -- A code with its operand n behind it, up to next.
  pub long-form : (mode : Mode) (at next k n : ℕ) → Starts code pc mode at → byte_at code at ≡ k
      → row_of k ≡ row operands modes make
      → allows modes mode ≡ true → operand operands code at ≡ n → at < next → next ≡ at + extent operands code at
      → next ≤ length code
      → decode_at code (length code) pc ≡ Ok ((make mode n (operand2 operands code at)), next)
  long-form mode at next k n st e r a o l x w = rw (← o) (in-form mode at next st (rw e r) a l x w)

-- Codes that are not DOUBLE.
pub started : (code : List ℕ) (pc k : ℕ) → byte_at code pc ≡ k → eqb k 0xF5 ≡ false → Starts code pc Normal pc
started code pc k e f = at_once (λ z. eqb-false k 0xF5 f (sym e ∙ z))

module _ (code : List ℕ) (pc : ℕ) (modes : Modes) (make : Mode → ℕ → ℕ → Instruction) where
  -- The operand is the last digit.
  pub short-form : (mode : Mode) (at b k : ℕ) → Starts code pc mode at → b ≡ byte_at code at → b < 0x70 → b / 16 ≡ k
      → find short_table k ≡ row digit modes make → allows modes mode ≡ true → at + 1 < length code
      → decode_at code (length code) pc ≡ Ok ((make mode (b % 16) 0), (at + 1))
  short-form mode at b k st is low e r a w =
      rw is
      (in-form code pc digit modes make mode at (at + 1) st (rw (← is) (short_row b k low e ∙ r)) a (omega arith) (omega arith)
      (omega arith))

  -- A byte, or a halfword.
  pub byte-form : (mode : Mode) (at k n : ℕ) → Starts code pc mode at → byte_at code at ≡ k
      → row_of k ≡ row (unsigned byte) modes make
      → allows modes mode ≡ true → n ≡ byte_at code (at + 1) → at + 2 < length code
      → decode_at code (length code) pc ≡ Ok ((make mode n 0), (at + 2))
  byte-form mode at k n st e r a o w =
      long-form code pc (unsigned byte) modes make mode at (at + 2) k n st e r a (sym o) (omega arith) (omega arith)
      (omega arith)

  pub half-form : (mode : Mode) (at k n : ℕ) → Starts code pc mode at → byte_at code at ≡ k
      → row_of k ≡ row (unsigned half) modes make
      → allows modes mode ≡ true → n ≡ halfword_at code (at + 1) → at + 3 < length code
      → decode_at code (length code) pc ≡ Ok ((make mode n 0), (at + 3))
  half-form mode at k n st e r a o w =
      long-form code pc (unsigned half) modes make mode at (at + 3) k n st e r a (sym o) (omega arith) (omega arith)
      (omega arith)
