-- How far a decoded instruction reaches, a prefix counted in.
use mathlib.Core.Path.{◌≡◌}
use mathlib.Core.List.{List}
use Prim.Native.Nat.{ℕ, ◌+◌, ◌≤◌}
use native.Mathlib.Omega.{arith}
use Rattle.words.specs.Bytes.{Bytes}
use Rattle.opcode.specs.Decode.{decode_at}
use Rattle.std.specs.Prelude.{Ok}
use Rattle.opcode.specs.declared.instruction.Mode.TheVariants.{Normal, Double}
use Rattle.opcode.specs.declared.instruction.Instruction.{Instruction}
use Rattle.opcode.proofs.Formats.{length_most}
use Rattle.opcode.proofs.Found.{Origin, single, double, origin}

module _ (code : List ℕ) (bytes : Bytes code) where
  pub reach : (limit at : ℕ) {i : Instruction} {next : ℕ} → decode_at code limit at ≡ Ok (i, next) → (at ≤ next) × (next ≤ at + 655366)
  reach limit at {i} {next} e = by (origin code limit i next at e)
    where
      by : Origin code limit at i next → (at ≤ next) × (next ≤ at + 655366)
      by (single f r) = omega (arith, r.ends, length_most Normal code at bytes)
      by (double f r) = omega (arith, r.ends, length_most Double code (at + 1) bytes)
