-- What the codes of steps to other modules make, by their rows.
use mathlib.Core.Path.{◌≡◌, ◌∙◌, refl, sym}
use mathlib.Core.List.{List}
use Prim.Native.Nat.{ℕ, ◌+◌, ◌≤◌}
use native.Mathlib.Omega.{arith}
use lib.ListN.{length}
use Rattle.words.specs.Bytes.{byte_at}
use Rattle.operand.specs.Operand.{bytes}
use Rattle.opcode.specs.Table.{normal, row, row_of}
use Rattle.opcode.specs.declared.instruction.Mode.{Mode}
use Rattle.opcode.specs.declared.instruction.Mode.TheVariants.{Normal}
use Rattle.opcode.specs.declared.instruction.Instruction.{Instruction}
use Rattle.opcode.specs.declared.instruction.Instruction.TheVariants.{Load, LoadAddress, Store, CallExternal}
use Rattle.opcode.specs.declared.instruction.Base.TheVariants.{External}
use Rattle.fast.proofs.Decoding.{decodes}
use Rattle.fast.specs.Fast.{Decodes}

module _ (code : List ℕ) (pc : ℕ) where
  of-bytes : (k : ℕ) (make : Mode → ℕ → ℕ → Instruction) → byte_at code pc ≡ k → row_of k ≡ row bytes normal make
      → pc + 3 ≤ length code → (k ≡ 0xF5 → ⊥)
      → Decodes code pc (make Normal (byte_at code (pc + 1)) (byte_at code (pc + 2))) (pc + 3)
  of-bytes k make e r w single =
      decodes code bytes normal make pc (pc + 3) (rw e r) (λ z. single (sym e ∙ z)) refl (omega arith) (omega arith) w

  pub call-external-decodes : byte_at code pc ≡ 0xE6 → pc + 3 ≤ length code
      → Decodes code pc (CallExternal (byte_at code (pc + 1)) (byte_at code (pc + 2))) (pc + 3)
  unfolding row_of
  call-external-decodes e w = of-bytes 0xE6 (λ m n k. CallExternal n k) e refl w (λ z. omega arith)

  pub load-external-decodes : byte_at code pc ≡ 0x89 → pc + 3 ≤ length code
      → Decodes code pc (Load (External (byte_at code (pc + 1))) Normal (byte_at code (pc + 2))) (pc + 3)
  unfolding row_of
  load-external-decodes e w = of-bytes 0x89 (λ m n k. Load (External n) m k) e refl w (λ z. omega arith)

  pub store-external-decodes : byte_at code pc ≡ 0x98 → pc + 3 ≤ length code
      → Decodes code pc (Store (External (byte_at code (pc + 1))) Normal (byte_at code (pc + 2))) (pc + 3)
  unfolding row_of
  store-external-decodes e w = of-bytes 0x98 (λ m n k. Store (External n) m k) e refl w (λ z. omega arith)

  pub address-external-decodes : byte_at code pc ≡ 0x91 → pc + 3 ≤ length code
      → Decodes code pc (LoadAddress (External (byte_at code (pc + 1))) (byte_at code (pc + 2))) (pc + 3)
  unfolding row_of
  address-external-decodes e w = of-bytes 0x91 (λ m n k. LoadAddress (External n) k) e refl w (λ z. omega arith)
