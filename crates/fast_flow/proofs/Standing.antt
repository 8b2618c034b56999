-- What stands at a place, from its code byte: the row of the code, which is below DOUBLE's, and its n bytes within the code.
use mathlib.Core.Path.{◌≡◌, refl}
use mathlib.Core.Bool.{true}
use mathlib.Core.List.{List}
use Prim.Native.Nat.{ℕ, ◌+◌, ◌≤◌, ◌<◌}
use native.Mathlib.Omega.{arith}
use lib.Dec.{ltb}
use lib.ListN.{length}
use borrow.Author.Tests.{ltb-true}
use Rattle.words.specs.Bytes.{byte_at}
use Rattle.operand.specs.Operand.{Operands, extent, operand, operand2}
use Rattle.opcode.specs.Table.{normal, row, row_of}
use Rattle.opcode.specs.Codes.{double_code}
use Rattle.opcode.specs.declared.instruction.Instruction.{Instruction}
use Rattle.opcode.specs.declared.instruction.Mode.{Mode}
use Rattle.opcode.specs.declared.instruction.Mode.TheVariants.{Normal}
use Rattle.registers.specs.declared.Attributes.{Attributes}
use Rattle.fast.proofs.Decoding.{decodes}
use Rattle.fast.specs.Fast.{Decodes}

pub stands : (code : List ℕ) (A : Attributes) (pc k : ℕ) (operands : Operands) (make : Mode → ℕ → ℕ → Instruction) (n : ℕ)
    → row_of k ≡ row operands normal make → ltb k double_code ≡ true → extent operands code pc ≡ n → 0 < n → pc + n ≤ length code
    → byte_at code pc ≡ k
    → Decodes code pc (make Normal (operand operands code pc) (operand2 operands code pc)) (pc + n)
stands code A pc k operands make n r below is some within e =
    decodes code operands normal make pc (pc + n) (rw e r) (λ z. omega (arith, ltb-true k 0xF5 below, e)) refl (omega arith)
    (omega (arith, is)) within
