-- Decoding taken apart, and put together again: an instruction is found at its code byte or behind DOUBLE, and ends within the limit. By
-- the tests that decoding makes.
use mathlib.Core.Bool.{Bool, true, false, cond}
use mathlib.Core.Path.{◌≡◌, refl, ap}
use mathlib.Core.List.{List}
use Prim.Native.Nat.{ℕ, ◌+◌, ◌<◌, ◌≤◌}
use native.Mathlib.Omega.{arith}
use borrow.Author.Tests.{lt-ltb, le-leb, leb-true, eq-eqb, ne_eqb, eqb-true, eqb-false}
use lib.Dec.{eqb, ltb, leb}
use Rattle.words.specs.Bytes.{byte_at}
use Rattle.opcode.specs.Length.{length_in}
use Rattle.opcode.specs.Decode.{Decoded, instruction_at, decode_in, decode_at}
use Rattle.opcode.specs.declared.DecodeError.TheVariants.{Unserved, Past}
use Rattle.std.specs.Prelude.{Err, Ok}
use Rattle.opcode.specs.declared.instruction.Mode.{Mode}
use Rattle.opcode.specs.declared.instruction.Mode.TheVariants.{Normal, Double}
use Rattle.opcode.specs.declared.instruction.Instruction.{Instruction}

-- What decodes alike is the same instruction, before the same place.
pub same-decoded : {i j : Instruction} {m n : ℕ} → ◌≡◌ {A = Decoded} (Ok (i, m)) (Ok (j, n)) → (i ≡ j) × (m ≡ n)
same-decoded {i} {j} {m} {n} e =
    let p : ◌≡◌ {A = Instruction × ℕ} (i, m) (j, n) = cc in
    (ap (λ (d : Instruction × ℕ). d.0) p, ap (λ (d : Instruction × ℕ). d.1) p)

-- What decoding finds at the code byte.
pub record Found (m : Mode) (code : List ℕ) (limit at : ℕ) (i : Instruction) (next : ℕ) : Type 0 where
  pub served : length_in m code at ≡ 0 → ⊥
  pub same : instruction_at m code at ≡ i
  pub ends : at + length_in m code at ≡ next
  pub within : next ≤ limit

-- And at the first byte: the code byte itself, or DOUBLE before it.
pub data Origin (code : List ℕ) (limit at : ℕ) (i : Instruction) (next : ℕ) : Type 0 where
  single : (byte_at code at ≡ 0xF5 → ⊥) → Found Normal code limit at i next → Origin code limit at i next
  double : byte_at code at ≡ 0xF5 → Found Double code limit (at + 1) i next → Origin code limit at i next

module _ (code : List ℕ) (limit : ℕ) (i : Instruction) (next : ℕ) where
  found : (m : Mode) (at : ℕ) → decode_in m code limit at ≡ Ok (i, next) → Found m code limit at i next
  unfolding decode_in
  found m at = by (eqb (length_in m code at) 0) refl (leb (at + length_in m code at) limit) refl
    where
      by : (t : Bool) → eqb (length_in m code at) 0 ≡ t → (u : Bool) → leb (at + length_in m code at) limit ≡ u
          → cond {A = Decoded} t (Err Unserved) (cond {A = Decoded} u (Ok (instruction_at m code at, at + length_in m code at)) (Err Past)) ≡ Ok (i, next)
          → Found m code limit at i next
      by true s u l e = let z : ◌≡◌ {A = ℕ} 0 1 = cc in absurd (omega arith)
      by false s true l e =
          let p = same-decoded e in
          record {
            served = eqb-false (length_in m code at) 0 s;
            same = p.0;
            ends = p.1;
            within = omega (arith, leb-true (at + length_in m code at) limit l);
          }
      by false s false l e = let z : ◌≡◌ {A = ℕ} 0 1 = cc in absurd (omega arith)

  decoded-in : (m : Mode) (at : ℕ) → Found m code limit at i next → decode_in m code limit at ≡ Ok (i, next)
  unfolding decode_in
  decoded-in m at r =
      rw (ne_eqb (length_in m code at) 0 r.served, le-leb (at + length_in m code at) limit (omega arith), r.same, r.ends)

  pub origin : (at : ℕ) → decode_at code limit at ≡ Ok (i, next) → Origin code limit at i next
  unfolding decode_at
  origin at = by (ltb at limit) (eqb (byte_at code at) 0xF5) refl (ltb (at + 1) limit)
    where
      by : (t u : Bool) → eqb (byte_at code at) 0xF5 ≡ u → (v : Bool)
          → cond t (cond u (cond v (decode_in Double code limit (at + 1)) (Err Past)) (decode_in Normal code limit at)) (Err Past) ≡ Ok (i, next)
          → Origin code limit at i next
      by true true b true e = double (eqb-true (byte_at code at) 0xF5 b) (found Double (at + 1) e)
      by true true b false e = let z : ◌≡◌ {A = ℕ} 0 1 = cc in absurd (omega arith)
      by true false b v e = single (eqb-false (byte_at code at) 0xF5 b) (found Normal at e)
      by false u b v e = let z : ◌≡◌ {A = ℕ} 0 1 = cc in absurd (omega arith)

  pub decoded : (at : ℕ) → Origin code limit at i next → decode_at code limit at ≡ Ok (i, next)
  unfolding decode_at
  decoded at (single f r) =
      let h : at < limit = omega (arith, r.served) in
      rw (lt-ltb at limit h, ne_eqb (byte_at code at) 0xF5 f, decoded-in Normal at r)
  decoded at (double f r) =
      let h : at + 1 < limit = omega (arith, r.served) in
      rw (lt-ltb at limit (omega arith), eq-eqb (byte_at code at) 0xF5 f, lt-ltb (at + 1) limit h, decoded-in Double (at + 1) r)

pub unprefixed :
    {code : List ℕ} {limit at next : ℕ} {i : Instruction} →
    Origin code limit at i next → (byte_at code at ≡ 0xF5 → ⊥) → Found Normal code limit at i next
unprefixed (single f r) n = r
unprefixed (double f r) n = absurd (n f)

-- An instruction ends behind its first byte and within the limit.
pub ends : (code : List ℕ) (limit at : ℕ) {i : Instruction} {next : ℕ} → decode_at code limit at ≡ Ok (i, next) → (at < next) × (next ≤ limit)
ends code limit at {i} {next} e = by (origin code limit i next at e)
  where
    by : Origin code limit at i next → (at < next) × (next ≤ limit)
    by (single f r) = (omega (arith, r.served, r.ends), r.within)
    by (double f r) = (omega (arith, r.served, r.ends), r.within)
