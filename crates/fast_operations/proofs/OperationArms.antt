-- The arms of operations on words: the value that the function puts is the step of its instruction.
use mathlib.Core.Path.{◌≡◌, ◌∙◌, refl, sym}
use mathlib.Core.Bool.{Bool, true}
use mathlib.Core.List.{List}
use Prim.Native.Nat.{ℕ, ◌+◌, ◌-◌, ◌≤◌, ◌<◌}
use native.Mathlib.Omega.{arith}
use lib.ListN.{length, set}
use Rattle.words.specs.Bytes.{byte_at}
use Rattle.operand.specs.Operand.{none}
use Rattle.opcode.specs.Table.{normal, row, row_of}
use Rattle.opcode.specs.Decode.{decode_at}
use Rattle.std.specs.Prelude.{Ok, Err}
use Rattle.opcode.specs.declared.instruction.Instruction.TheVariants.{Operate, Nop}
use Rattle.opcode.specs.declared.instruction.Operation.{Operation}
use Rattle.shape.specs.Shape.{shape_of}
use Rattle.shape.specs.Counts.{operands}
use Rattle.operate.specs.Operation.{operation_value}
use Rattle.registers.specs.declared.Attributes.{Attributes}
use Rattle.registers.specs.declared.Registers.{Registers}
use Rattle.registers.specs.Modules.{Modules}
use Rattle.registers.specs.Program.{Program, program}
use Rattle.registers.specs.Memory.{read}
use Rattle.execute.specs.Execute.{execute}
use Rattle.execute.proofs.Top.{found}
use Rattle.state.specs.Fits.{bounded}
use Rattle.state.proofs.Fitting.{Fitting, fitting}
use Rattle.fast.specs.Fast.{Spot, spot, state_at, Did, is_word, word_of}
use Rattle.fast.specs.Leaves.{Drops, PutsOne, PutsTwo}
use Rattle.fast.proofs.Goes.{did}
use Rattle.fast.proofs.Forms.{Ends, gives_one}
use Rattle.fast.proofs.Data.{nop-goes}
use Rattle.fast.proofs.Decoding.{decodes}
use Rattle.operate.specs.Value.{Value}

module _ (code : List ℕ) (A : Attributes) (q : Registers) (pc h : ℕ) (m s : List ℕ)
    (f : bounded A (state_at q (spot pc h m s)) ≡ true) where
  abbrev L : Modules → Program
  L = program code A

  abbrev T : Spot
  T = spot pc h m s

  F : Fitting A (state_at q T)
  F = fitting A (state_at q T) f

  two-goes : (Ms : Modules) (op : Operation) (v : Value) → operands op ≡ 2
      → operation_value A.wraps op (read s (h - 2)) (read s (h - 1)) ≡ v
      → decode_at code (length code) pc ≡ Ok ((Operate op), (pc + 1)) → pc + 1 < length code → (2 ≤ h) × (is_word v ≡ true)
      → Ends (L Ms) q T (spot (pc + 1) (h - 1) m (set s (h - 2) (word_of v)))
  unfolding execute shape_of
  two-goes Ms op (Ok x) two e d inside (enough, word) =
      gives_one (L Ms) q pc h m s (Operate op) (pc + 1) (pc + 1) d (rw two enough) F.global inside 2 (h - 2) (h - 1) x refl
      (omega arith) (rw (two, found s h 2 0 enough (omega arith), found s h 2 1 enough (omega arith), e))
      (omega (arith, F.height))
  two-goes Ms op (Err t) two e d inside (enough, word) = absurd (let z : ◌≡◌ {A = ℕ} 0 1 = cc in omega arith)

  one-goes : (Ms : Modules) (op : Operation) (v : Value) → operands op ≡ 1
      → ((y : ℕ) → operation_value A.wraps op (read s (h - 1)) y ≡ v)
      → decode_at code (length code) pc ≡ Ok ((Operate op), (pc + 1)) → pc + 1 < length code → (1 ≤ h) × (is_word v ≡ true)
      → Ends (L Ms) q T (spot (pc + 1) h m (set s (h - 1) (word_of v)))
  unfolding execute shape_of
  one-goes Ms op (Ok x) one e d inside (enough, word) =
      gives_one (L Ms) q pc h m s (Operate op) (pc + 1) (pc + 1) d (rw one enough) F.global inside 1 (h - 1) h x refl
      (omega arith) (rw (one, found s h 1 0 enough (omega arith), e)) (omega (arith, F.height))
  one-goes Ms op (Err t) one e d inside (enough, word) = absurd (let z : ◌≡◌ {A = ℕ} 0 1 = cc in omega arith)

  decoded : (k : ℕ) (op : Operation) → byte_at code pc ≡ k → row_of k ≡ row none normal (λ mode a b. Operate op) → (k ≡ 0xF5 → ⊥)
      → pc + 1 ≤ length code → decode_at code (length code) pc ≡ Ok ((Operate op), (pc + 1))
  decoded k op e r not-double room =
      decodes code none normal (λ mode a b. Operate op) pc (pc + 1) (rw e r) (λ z. not-double (sym e ∙ z)) refl (omega arith)
      (omega arith) room

  pub two-arm : (k : ℕ) (op : Operation) (v : Value) → byte_at code pc ≡ k → row_of k ≡ row none normal (λ mode a b. Operate op)
      → (k ≡ 0xF5 → ⊥) → operands op ≡ 2 → operation_value A.wraps op (read s (h - 2)) (read s (h - 1)) ≡ v
      → pc + 1 < length code → (t : Bool) (T' : Spot) → PutsTwo t (pc + 1) v T T' → Did t L q T T'
  two-arm k op v e r not-double two value room t T' =
      did t L q _ T _ T' (λ Ms R c. two-goes Ms op v two value (decoded k op e r not-double (omega arith)) room c)

  pub one_arm : (k : ℕ) (op : Operation) (v : Value) → byte_at code pc ≡ k → row_of k ≡ row none normal (λ mode a b. Operate op)
      → (k ≡ 0xF5 → ⊥) → operands op ≡ 1 → ((y : ℕ) → operation_value A.wraps op (read s (h - 1)) y ≡ v) → pc + 1 < length code
      → (t : Bool) (T' : Spot) → PutsOne t (pc + 1) v T T' → Did t L q T T'
  one_arm k op v e r not-double one value room t T' =
      did t L q _ T _ T' (λ Ms R c. one-goes Ms op v one value (decoded k op e r not-double (omega arith)) room c)

  pub nop-arm : byte_at code pc ≡ 0xFF → pc + 1 < length code → (t : Bool) (T' : Spot) → Drops t (pc + 1) 0 T T' → Did t L q T T'
  unfolding row_of
  nop-arm e room t T' =
      did t L q _ T _ T' (λ Ms R c. nop-goes (L Ms) q pc h m s R (pc + 1) room
      (decodes code none normal (λ mode a b. Nop) pc (pc + 1) (rw e) (λ z. omega (arith, e)) refl (omega arith) (omega arith)
      (omega arith)) c)
