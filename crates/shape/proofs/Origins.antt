-- Where decoded shapes come from. A loop, a switch and a procedure's beginning are made by rows of their own in the tables of
-- codes, none of which DOUBLE (F5) may stand before: the shape tells the first byte, and the first byte the row.
use mathlib.Core.Bool.{Bool, true, false, cond, false≢true, ◌||◌}
use mathlib.Core.Path.{◌≡◌, refl, ap}
use mathlib.Core.List.{List}
use Prim.Native.Nat.{ℕ, ◌+◌, ◌≤◌}
use native.Mathlib.Omega.{arith}
use borrow.Author.Tests.{ne_eqb, eqb-true}
use lib.Dec.{eqb}
use Rattle.words.specs.Bytes.{byte_at}
use Rattle.operand.specs.Operand.{operand, operand2}
use Rattle.opcode.specs.Table.{Row, row, unserved, allows, row_of}
use Rattle.opcode.specs.Codes.{iter_code, switch_code, switch_x_code, enter_operands}
use Rattle.opcode.specs.Length.{length_of, length_in}
use Rattle.opcode.specs.Decode.{made, instruction_at, decode_at}
use Rattle.opcode.proofs.Rows.{row-passes}
use Rattle.opcode.proofs.Found.{Found, Origin, single, double, origin, decoded, unprefixed}
use Rattle.std.specs.Prelude.{Ok}
use Rattle.opcode.specs.declared.instruction.Mode.{Mode}
use Rattle.opcode.specs.declared.instruction.Mode.TheVariants.{Normal, Double}
use Rattle.opcode.specs.declared.instruction.Instruction.{Instruction}
use Rattle.shape.specs.declared.Shape.{Shape}
use Rattle.shape.specs.declared.Shape.TheVariants.{Straight, Pop, Jump, JumpC, JumpTF, Iter}
use Rattle.shape.specs.declared.Shape.TheVariants.{Next, Switch, Leave, Call, CallExternal, Enter, Rtn}
use Rattle.shape.specs.declared.Table.{Table}
use Rattle.shape.specs.Shape.{shape_of}

-- Whether the first byte may be the one given, by the shape.
abbrev begins : Shape → ℕ → Bool
begins (Iter d) first = eqb first iter_code
begins (Switch t n) first = eqb first switch_code || eqb first switch_x_code
begins (Enter par) first = eqb first 0xE8
begins (Straight pops pushes) first = true
begins (Pop n) first = true
begins (Jump d) first = true
begins (JumpC d) first = true
begins (JumpTF d) first = true
begins Next first = true
begins Leave first = true
begins (Call p) first = true
begins (CallExternal l p) first = true
begins Rtn first = true

module _ (m : Mode) (code : List ℕ) (at : ℕ) where
  -- The test: what a row makes in a mode that it serves may begin with the byte.
  abbrev agrees : ℕ → Row → Bool
  agrees first unserved = true
  agrees first (row operands modes make) =
      cond (allows modes m) (begins (shape_of (make m (operand operands code at) (operand2 operands code at))) first) true

  agreed : (r : Row) (first : ℕ) → (length_of r m code at ≡ 0 → ⊥) → agrees first r ≡ true
      → begins (shape_of (made r m code at)) first ≡ true
  agreed unserved first s e = absurd (s refl)
  agreed (row operands modes make) first s e = by (allows modes m) _ _ s e
    where
      by : (b : Bool) (n : ℕ) (t : Bool) → (cond b n 0 ≡ 0 → ⊥) → cond b t true ≡ true → t ≡ true
      by true n t s e = e
      by false n t s e = absurd (s refl)

module _ (code : List ℕ) (limit at next : ℕ) (i : Instruction) (e : decode_at code limit at ≡ Ok (i, next)) where
  shape-begins : begins (shape_of i) (byte_at code at) ≡ true
  unfolding shape_of length_in instruction_at
  shape-begins = by (origin code limit i next at e)
    where
      by : Origin code limit at i next → begins (shape_of i) (byte_at code at) ≡ true
      by (single f r) =
          let b = byte_at code at in
          rw (← r.same) (agreed Normal code at (row_of b) b r.served
          (row-passes (agrees Normal code at) b refl refl refl refl refl))
      by (double f r) =
          let b = byte_at code (at + 1) in
          let test : ℕ → Row → Bool = λ k. agrees Double code (at + 1) 0xF5 in
          rw (← r.same, f) (agreed Double code (at + 1) (row_of b) 0xF5 r.served (row-passes test b refl refl refl refl refl))

  pub iter-origin : {d : ℕ} → shape_of i ≡ Iter d → (byte_at code at ≡ 0xE0) × (next ≡ at + 3)
  unfolding length_in row_of
  iter-origin s =
      let f : byte_at code at ≡ 0xE0 = eqb-true (byte_at code at) 0xE0 (rw s at shape-begins) in
      let r = unprefixed (origin code limit i next at e) (λ n. omega arith) in
      (f, omega (arith, rw f at r.ends))

  pub switch-origin :
      {t : Table} {n : ℕ} →
      shape_of i ≡ Switch t n →
      (eqb (byte_at code at) 0xE0 ≡ false) × ((eqb (byte_at code at) 0xE2 || eqb (byte_at code at) 0xE3) ≡ true)
  switch-origin s =
      let b = rw s at shape-begins in
      (ne_eqb (byte_at code at) 0xE0 (λ f. false≢true (rw f at b)), b)

  pub enter-parameters : {par : ℕ} → shape_of i ≡ Enter par → par ≡ operand enter_operands code at
  unfolding instruction_at row_of shape_of
  enter-parameters s =
      let f : byte_at code at ≡ 0xE8 = eqb-true (byte_at code at) 0xE8 (rw s at shape-begins) in
      let r = unprefixed (origin code limit i next at e) (λ n. omega arith) in
      cc (rw f at (ap shape_of r.same))

  -- A wider limit changes nothing.
  pub decoded-wider : (more : ℕ) → limit ≤ more → decode_at code more at ≡ Ok (i, next)
  decoded-wider more l = decoded code more i next at (by (origin code limit i next at e))
    where
      widened : {m : Mode} {k : ℕ} → Found m code limit k i next → Found m code more k i next
      widened r = record { served = r.served; same = r.same; ends = r.ends; within = omega arith }

      by : Origin code limit at i next → Origin code more at i next
      by (single f r) = single f (widened r)
      by (double f r) = double f (widened r)
