-- What the sheet says of a code, read off its entry. An entry is that of a prefix, or its row's lengths in one number.
use mathlib.Core.Bool.{Bool, true, false}
use mathlib.Core.Path.{◌≡◌, refl, ◌∙◌}
use mathlib.Core.List.{List}
use Prim.Native.Nat.{ℕ, ◌+◌, ◌*◌, ◌/◌, ◌%◌, ◌^◌, ◌<◌, ◌≤◌}
use native.Mathlib.Nat.{mul-le-mul}
use native.Mathlib.Omega.{arith}
use borrow.Author.Tests.{eqb-true}
use lib.Dec.{eqb}
use Rattle.words.specs.Bytes.{byte_at, Bytes, halfword_at}
use Rattle.words.proofs.Bytes.{halfword-below}
use Rattle.operand.specs.Operand.{fixed_of, each_of}
use Rattle.opcode.specs.Codes.{double_code}
use Rattle.opcode.specs.Table.{Row, row, unserved, normal, both, row_of}
use Rattle.opcode.specs.Sheet.{format_of, prefix_mark, sheet_of}
use Rattle.opcode.specs.Length.{length_of, length_in}
use Rattle.opcode.specs.declared.instruction.Mode.{Mode}
use Rattle.opcode.specs.declared.instruction.Mode.TheVariants.{Normal, Double}
use Rattle.opcode.proofs.Rows.{Short, row-every, row-short}

-- At most ten bytes for each entry of a table.
format-below : (code : ℕ) → format_of (row_of code) < 32 * 11
format-below code =
    row-every (λ k r. format_of r < 32 * 11) code (omega arith) (omega arith) (omega arith) (omega arith) (omega arith)

-- An entry of the sheet is the prefix's, or a row's, which is below its mark.
pub data Read (code entry : ℕ) : Type 0 where
  prefix : code ≡ double_code → entry ≡ prefix_mark + 1 → Read code entry
  plain : eqb code double_code ≡ false → entry ≡ format_of (row_of code) → entry < prefix_mark → Read code entry

pub read : (code entry : ℕ) → entry ≡ sheet_of code → Read code entry
unfolding sheet_of
read code entry e = by (eqb code double_code) refl
  where
    by : (t : Bool) → eqb code double_code ≡ t → Read code entry
    by true q = prefix (eqb-true code double_code q) (e ∙ rw q)
    by false q =
        let p : entry ≡ format_of (row_of code) = e ∙ rw q in
        plain q p (omega (arith, format-below code))

pub not-prefix : (code entry : ℕ) → entry ≡ sheet_of code → entry < prefix_mark → eqb code double_code ≡ false
not-prefix code entry e h = by (read code entry e)
  where
    by : Read code entry → eqb code double_code ≡ false
    by (prefix b p) = absurd (omega arith)
    by (plain b p l) = b

pub is-prefix : (code entry : ℕ) → entry ≡ sheet_of code → prefix_mark ≤ entry → code ≡ double_code
is-prefix code entry e h = by (read code entry e)
  where
    by : Read code entry → code ≡ double_code
    by (prefix b p) = b
    by (plain b p l) = absurd (omega arith)

unmarked : (r : Row) (code : List ℕ) (at : ℕ) → Short r → format_of r / 16 % 2 ≡ 0 → length_of r Double code at ≡ 0
unmarked unserved code at s e = refl
unmarked (row operands normal make) code at s e = refl
unmarked (row operands both make) code at s e = absurd (omega arith)

-- No table stands behind a code that DOUBLE may stand before.
marked :
    (r : Row) (code : List ℕ) (at : ℕ) → Short r → (format_of r / 16 % 2 ≡ 0 → ⊥) → length_of r Double code at ≡ format_of r % 16
marked unserved code at s k = absurd (k refl)
marked (row operands normal make) code at s k = absurd (k (omega arith))
marked (row operands both make) code at s k = let z : each_of operands ≡ 0 = omega arith in rw z (omega arith)

parts :
    (fixed mark each n : ℕ) →
    fixed < 16 → fixed + mark < 32 → mark % 16 ≡ 0 →
    fixed + each * n ≡ (fixed + mark + 32 * each) % 16 + (fixed + mark + 32 * each) / 32 * n
parts fixed mark each n f m z =
    let a : (fixed + mark + 32 * each) % 16 ≡ fixed = omega arith in
    let b : (fixed + mark + 32 * each) / 32 ≡ each = omega arith in
    rw (a, b)

whole :
    (r : Row) (code : List ℕ) (at : ℕ) →
    Short r → length_of r Normal code at ≡ format_of r % 16 + format_of r / 32 * halfword_at code (at + 1)
whole unserved code at s = omega arith
whole (row operands both make) code at s =
    parts (fixed_of operands) 16 (each_of operands) (halfword_at code (at + 1)) (omega arith) (omega arith) refl
whole (row operands normal make) code at s =
    parts (fixed_of operands) 0 (each_of operands) (halfword_at code (at + 1)) s (omega arith) refl

doubled : (r : Row) (code : List ℕ) (at : ℕ) → Short r → length_of r Double code at < 16
doubled unserved code at s = omega arith
doubled (row operands normal make) code at s = omega arith
doubled (row operands both make) code at s = let z : each_of operands ≡ 0 = omega arith in rw z (omega arith)

summed : (fixed each n : ℕ) → fixed < 16 → each ≤ 10 → fixed + each * n ≤ 15 + 10 * n
summed fixed each n f e = let p : each * n ≤ 10 * n = mul-le-mul {n₂ = 10} {m₂ = n} e (omega arith) in omega arith

bounded :
    (r : Row) (m : Mode) (code : List ℕ) (at : ℕ) →
    Short r → format_of r < 32 * 11 → length_of r m code at ≤ 15 + 10 * halfword_at code (at + 1)
bounded unserved m code at s f = omega arith
bounded (row operands both make) m code at s f = summed (fixed_of operands) (each_of operands) _ (omega arith) (omega arith)
bounded (row operands normal make) Normal code at s f = summed (fixed_of operands) (each_of operands) _ s (omega arith)
bounded (row operands normal make) Double code at s f = omega arith

module _ (code : List ℕ) (at entry : ℕ) (e : entry ≡ sheet_of (byte_at code at)) where
  -- A prefix is no instruction.
  pub prefix-none : prefix_mark ≤ entry → length_in Normal code at ≡ 0
  unfolding length_in row_of
  prefix-none h = by (read (byte_at code at) entry e)
    where
      by : Read (byte_at code at) entry → length_in Normal code at ≡ 0
      by (prefix b p) = rw b
      by (plain b p l) = absurd (omega arith)

  -- Below its mark the last digit is the fixed length, and what is above the mark of DOUBLE is taken for each entry of a table.
  pub length_some : entry < prefix_mark → length_in Normal code at ≡ entry % 16 + entry / 32 * halfword_at code (at + 1)
  unfolding length_in
  length_some h = by (read (byte_at code at) entry e)
    where
      by : Read (byte_at code at) entry → length_in Normal code at ≡ entry % 16 + entry / 32 * halfword_at code (at + 1)
      by (prefix b p) = absurd (omega arith)
      by (plain b p l) = rw p (whole (row_of (byte_at code at)) code at (row-short (byte_at code at)))

  -- Without the mark of DOUBLE there is no length in that mode, with it the fixed one.
  pub length_none : entry / 16 % 2 ≡ 0 → length_in Double code at ≡ 0
  unfolding length_in row_of
  length_none z = by (read (byte_at code at) entry e)
    where
      by : Read (byte_at code at) entry → length_in Double code at ≡ 0
      by (prefix b p) = rw b
      by (plain b p l) = unmarked (row_of (byte_at code at)) code at (row-short (byte_at code at)) (rw p at z)

  pub double-some : (entry / 16 % 2 ≡ 0 → ⊥) → length_in Double code at ≡ entry % 16
  unfolding length_in
  double-some k = by (read (byte_at code at) entry e)
    where
      by : Read (byte_at code at) entry → length_in Double code at ≡ entry % 16
      by (prefix b p) = absurd (k (omega arith))
      by (plain b p l) = rw p (marked (row_of (byte_at code at)) code at (row-short (byte_at code at)) (rw p at k))

pub double-short : (code : List ℕ) (at : ℕ) → length_in Double code at < 16
unfolding length_in
double-short code at = doubled (row_of (byte_at code at)) code at (row-short (byte_at code at))

-- Among bytes, entries of ten bytes and as many as a halfword counts are the most.
pub length_most : (m : Mode) (code : List ℕ) (at : ℕ) → Bytes code → length_in m code at ≤ 15 + 10 * 65535
unfolding length_in
length_most m code at bytes =
    let b = byte_at code at in
    omega (
      arith,
      bounded (row_of b) m code at (row-short b) (format-below b),
      halfword-below code bytes (at + 1),
    )

pub length-fits : (format n : ℕ) → format < 2 ^ 16 → n < 2 ^ 32 → format % 16 + format / 32 * n < 2 ^ 64
length-fits format n f h =
    let p : format / 32 * n ≤ 2 ^ 11 * 2 ^ 32 = mul-le-mul {n₂ = 2 ^ 11} {m₂ = 2 ^ 32} (omega arith) (omega arith) in
    omega arith
