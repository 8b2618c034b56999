-- Decoding reads no byte outside the instruction: two codes that agree on its bytes have the same one there. By the operands of
-- each row, which lie within its length.
use mathlib.Core.Bool.{Bool, true, false, cond}
use mathlib.Core.List.{List}
use mathlib.Core.Path.{◌≡◌, ◌∙◌, refl, sym, ap}
use Prim.Native.Nat.{ℕ, ◌+◌, ◌<◌, ◌≤◌}
use native.Mathlib.Nat.{zero-mul}
use native.Mathlib.Omega.{arith}
use Rattle.words.specs.Bytes.{byte_at, halfword_at, word_at}
use Rattle.operand.specs.Operand.{Size, b, h, w, bytes_in, number_at, width_of, extended}
use Rattle.operand.specs.Operand.{Operands, none, digit, unsigned, signed, bytes, table, fixed_of, extent, operand, operand2}
use Rattle.opcode.specs.Table.{Row, row, unserved, row_of, allows}
use Rattle.opcode.specs.Length.{length_of, length_in}
use Rattle.opcode.specs.Decode.{made, instruction_at, decode_at}
use Rattle.std.specs.Prelude.{Ok}
use Rattle.opcode.specs.declared.instruction.Mode.{Mode}
use Rattle.opcode.specs.declared.instruction.Instruction.{Instruction}
use Rattle.opcode.proofs.Found.{Found, Origin, single, double, origin, decoded}
use Rattle.opcode.proofs.Rows.{row-every}

-- The bytes that operands are read from.
abbrev lead : Operands → ℕ
lead none = 1
lead digit = 1
lead (unsigned s) = 1 + bytes_in s
lead (signed s) = 1 + bytes_in s
lead bytes = 3
lead (table fixed each) = 3

abbrev Deep : Row → Type 0
Deep unserved = 0 ≤ 1
Deep (row o modes make) = lead o ≤ fixed_of o

row-deep : (code : ℕ) → Deep (row_of code)
row-deep code = row-every (λ k. Deep) code (omega arith) (omega arith) (omega arith) (omega arith) (omega arith)

-- The same bytes from one offset up to another.
abbrev pub Agree : (c d : List ℕ) (from to : ℕ) → Type 0
Agree c d from to = (x : ℕ) → from ≤ x → x < to → byte_at d x ≡ byte_at c x

pub halfword-same : (c d : List ℕ) (at : ℕ) → Agree c d at (at + 2) → halfword_at d at ≡ halfword_at c at
unfolding halfword_at
halfword-same c d at A = rw (A at (omega arith) (omega arith), A (at + 1) (omega arith) (omega arith))

module _ (c d : List ℕ) (at : ℕ) where
  number_same : (s : Size) → Agree c d at (at + (1 + bytes_in s)) → number_at s d (at + 1) ≡ number_at s c (at + 1)
  unfolding word_at
  number_same b A = A (at + 1) (omega arith) (omega arith)
  number_same h A = halfword-same c d (at + 1) (λ x l u. A x (omega arith) (omega arith))
  number_same w A =
      rw (
        halfword-same c d (at + 1) (λ x l u. A x (omega arith) (omega arith)),
        halfword-same c d (at + 1 + 2) (λ x l u. A x (omega arith) (omega arith)),
      )

  operand_same : (o : Operands) → Agree c d at (at + lead o) → operand o d at ≡ operand o c at
  operand_same none A = refl
  operand_same digit A = rw (A at (omega arith) (omega arith))
  operand_same (unsigned s) A = number_same s A
  operand_same (signed s) A = ap (extended (width_of s)) (number_same s A)
  operand_same bytes A = A (at + 1) (omega arith) (omega arith)
  operand_same (table fixed each) A = number_same h A

  second-same : (o : Operands) → Agree c d at (at + lead o) → operand2 o d at ≡ operand2 o c at
  second-same none A = refl
  second-same digit A = refl
  second-same (unsigned s) A = refl
  second-same (signed s) A = refl
  second-same bytes A = A (at + 2) (omega arith) (omega arith)
  second-same (table fixed each) A = refl

  extent-same : (o : Operands) → Agree c d at (at + lead o) → extent o d at ≡ extent o c at
  extent-same none A = simp zero-mul
  extent-same digit A = simp zero-mul
  extent-same (unsigned s) A = simp zero-mul
  extent-same (signed s) A = simp zero-mul
  extent-same bytes A = simp zero-mul
  extent-same (table fixed each) A = rw (number_same h A)

  length-row : (r : Row) (m : Mode) → Deep r → Agree c d at (at + length_of r m c at) → length_of r m d at ≡ length_of r m c at
  length-row unserved m D A = refl
  length-row (row o modes make) m D A = by (allows modes m) refl
    where
      by : (t : Bool) → allows modes m ≡ t → cond t (extent o d at) 0 ≡ cond t (extent o c at) 0
      by true e = extent-same o (λ x l u. A x l (rw e (omega arith)))
      by false e = refl

  made_row : (r : Row) (m : Mode) → Deep r → (length_of r m c at ≡ 0 → ⊥) → Agree c d at (at + length_of r m c at)
      → made r m d at ≡ made r m c at
  made_row unserved m D z A = refl
  made_row (row o modes make) m D z A = by (allows modes m) refl
    where
      by : (t : Bool) → allows modes m ≡ t
          → make m (operand o d at) (operand2 o d at) ≡ make m (operand o c at) (operand2 o c at)
      by true e =
          let B : Agree c d at (at + lead o) = λ x l u. A x l (rw e (omega arith)) in
          rw (operand_same o B, second-same o B)
      by false e = absurd (z (rw e))

  found-same : {m : Mode} {limit next : ℕ} {i : Instruction} → Found m c limit at i next → Agree c d at next
      → Found m d limit at i next
  unfolding length_in instruction_at
  found-same {m} {limit} {next} {i} F A =
      let first : byte_at d at ≡ byte_at c at = A at (omega arith) (omega (arith, F.served, F.ends)) in
      let r = row_of (byte_at c at) in
      let D = row-deep (byte_at c at) in
      let B : Agree c d at (at + length_of r m c at) = λ x l u. A x l (omega (arith, F.ends)) in
      let long : length_of (row_of (byte_at d at)) m d at ≡ length_of r m c at = rw first (length-row r m D B) in
      record {
        served = λ e. F.served (sym long ∙ e);
        same = rw first (made_row r m D F.served B ∙ F.same);
        ends = rw long F.ends;
        within = F.within;
      }

pub decode-same : (c d : List ℕ) (limit at : ℕ) (i : Instruction) (next : ℕ) → decode_at c limit at ≡ Ok (i, next)
    → Agree c d at next → decode_at d limit at ≡ Ok (i, next)
decode-same c d limit at i next e A = by (origin c limit i next at e)
  where
    by : Origin c limit at i next → decode_at d limit at ≡ Ok (i, next)
    by (single f F) =
        let first : byte_at d at ≡ byte_at c at = A at (omega arith) (omega (arith, F.served, F.ends)) in
        decoded d limit i next at (single (λ z. f (sym first ∙ z)) (found-same c d at F A))
    by (double f F) =
        let first : byte_at d at ≡ byte_at c at = A at (omega arith) (omega (arith, F.served, F.ends)) in
        decoded d limit i next at (double (first ∙ f) (found-same c d (at + 1) F (λ x l u. A x (omega arith) u)))
