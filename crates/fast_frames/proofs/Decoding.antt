-- What the codes of frame steps make, by their rows.
use mathlib.Core.Path.{◌≡◌, ◌∙◌, refl, sym}
use mathlib.Core.Bool.{true}
use mathlib.Core.List.{List}
use Prim.Native.Nat.{ℕ, ◌+◌, ◌/◌, ◌%◌, ◌≤◌, ◌<◌}
use native.Mathlib.Omega.{arith}
use lib.ListN.{length}
use borrow.Author.Tests.{ne_eqb, lt-ltb}
use Rattle.words.specs.Bytes.{byte_at}
use Rattle.operand.specs.Operand.{Operands, none, digit, unsigned, bytes, b as byte, extent, operand, operand2}
use Rattle.opcode.specs.Table.{Modes, normal, allows, row, row_of}
use Rattle.opcode.specs.declared.instruction.Mode.{Mode}
use Rattle.opcode.specs.declared.instruction.Mode.TheVariants.{Normal}
use Rattle.opcode.specs.declared.instruction.Instruction.{Instruction}
use Rattle.opcode.specs.declared.instruction.Instruction.TheVariants.{Alloc, Free, Call, Enter, Rtn}
use Rattle.fast.proofs.Decoding.{decodes}
use Rattle.fast.specs.Fast.{Decodes}

module _ (code : List ℕ) (pc : ℕ) where
  decoded : (k : ℕ) (operands : Operands) (modes : Modes) (make : Mode → ℕ → ℕ → Instruction) (next : ℕ) → byte_at code pc ≡ k
      → row_of k ≡ row operands modes make → allows modes Normal ≡ true → next ≡ pc + extent operands code pc → pc < next
      → next ≤ length code → (k ≡ 0xF5 → ⊥)
      → Decodes code pc (make Normal (operand operands code pc) (operand2 operands code pc)) next
  decoded k operands modes make next e r a n l w single =
      decodes code operands modes make pc next (rw e r) (λ z. single (sym e ∙ z)) a l n w

  pub rtn-decodes : byte_at code pc ≡ 0xE9 → pc < length code → Decodes code pc Rtn (pc + 1)
  unfolding row_of
  rtn-decodes e w = decoded 0xE9 none normal _ (pc + 1) e refl refl (omega arith) (omega arith) (omega arith) (λ z. omega arith)

  pub alloc-decodes : byte_at code pc ≡ 0xD8 → pc < length code → Decodes code pc Alloc (pc + 1)
  unfolding row_of
  alloc-decodes e w = decoded 0xD8 none normal _ (pc + 1) e refl refl (omega arith) (omega arith) (omega arith) (λ z. omega arith)

  pub free-decodes : byte_at code pc ≡ 0xD9 → pc < length code → Decodes code pc Free (pc + 1)
  unfolding row_of
  free-decodes e w = decoded 0xD9 none normal _ (pc + 1) e refl refl (omega arith) (omega arith) (omega arith) (λ z. omega arith)

  pub call-decodes : byte_at code pc ≡ 0xE5 → pc + 2 < length code → Decodes code pc (Call (byte_at code (pc + 1))) (pc + 2)
  unfolding row_of
  call-decodes e w =
      decoded 0xE5 (unsigned byte) normal _ (pc + 2) e refl refl (omega arith) (omega arith) (omega arith) (λ z. omega arith)

  pub enter-decodes : byte_at code pc ≡ 0xE8 → pc + 3 < length code
      → Decodes code pc (Enter (byte_at code (pc + 1)) (byte_at code (pc + 2))) (pc + 3)
  unfolding row_of
  enter-decodes e w =
      decoded 0xE8 bytes normal _ (pc + 3) e refl refl (omega arith) (omega arith) (omega arith) (λ z. omega arith)

  -- The short form: the operand is the last digit.
  pub call-short : (c : ℕ) → c ≡ byte_at code pc → pc < length code → 0x70 < c → c < 0x80
      → Decodes code pc (Call (c % 16)) (pc + 1)
  unfolding row_of
  call-short c is room l u =
      let seven : c / 16 ≡ 7 = omega arith in
      rw is (decoded c digit normal (λ m n k. Call n) (pc + 1) (sym is)
      (rw (ne_eqb c 0x70 (omega arith), lt-ltb c 0x80 u, seven)) refl (omega arith) (omega arith) (omega arith)
      (λ z. omega arith))
