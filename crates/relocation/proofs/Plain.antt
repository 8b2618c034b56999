-- Code in which no byte is the code of an external instruction has no library byte: an instruction is external only if the
-- row of its code byte is. Its relocation table is sound just if it is empty.
use mathlib.Core.Bool.{Bool, true, false, cond, not, ◌&&◌, ◌||◌, false≢true}
use mathlib.Core.List.{List, [], ◌∷◌}
use mathlib.Core.Logic.{◌⊎◌, inl, inr}
use mathlib.Core.Path.{◌≡◌, ◌∙◌, refl, sym, ap}
use Prim.Native.Nat.{ℕ, zero, suc, ◌+◌, ◌-◌, ◌<◌}
use native.Mathlib.Omega.{arith}
use lib.Dec.{eqb, ltb}
use lib.ListN.{length}
use borrow.Author.Tests.{ltb-true, ltb-false, ne_eqb}
use Rattle.words.specs.Bytes.{byte_at, word_at}
use Rattle.words.specs.Order.{every}
use Rattle.words.specs.Series.{series}
use Rattle.words.proofs.Bytes.{byte_past}
use Rattle.header.specs.Header.{header_of, relocation_at, code_of}
use Rattle.entries.specs.Entries.{entry_at, entry_count, region_end}
use Rattle.opcode.specs.Table.{row_of}
use Rattle.opcode.specs.Decode.{made, instruction_at, decode_at}
use Rattle.opcode.proofs.Rows.{row-passes}
use Rattle.opcode.specs.Decode.{Decoded}
use Rattle.opcode.specs.declared.DecodeError.TheVariants.{Unserved, Past}
use Rattle.std.specs.Prelude.{Err, Ok}
use Rattle.std.specs.List.{list_any}
use Rattle.opcode.specs.declared.instruction.Mode.TheVariants.{Normal}
use Rattle.opcode.specs.declared.instruction.Instruction.{Instruction}
use Rattle.module_set.specs.Linked.{has}
use Rattle.relocation.specs.Places.{is_external, places_at, places_from, places_over, library_places}
use Rattle.relocation.specs.Relocation.{relocation_sound}
use Rattle.relocation.specs.Marks.{external_row, external_code, has_external_byte}
use Rattle.relocation.proofs.Bounds.{external-found}
use Rattle.relocation.proofs.Sound.{implied}

-- The codes: no other row is external.
abbrev among : ℕ → Bool
among b = eqb b 0x89 || (eqb b 0x91 || (eqb b 0x98 || eqb b 0xE6))

abbrev pub External : ℕ → Type 0
External b = b ≡ 0x89 ⊎ (b ≡ 0x91 ⊎ (b ≡ 0x98 ⊎ b ≡ 0xE6))

pub external-codes : (b : ℕ) → External b → true ≡ external_code b
unfolding row_of
external-codes b (inl e) = rw e
external-codes b (inr (inl e)) = rw e
external-codes b (inr (inr (inl e))) = rw e
external-codes b (inr (inr (inr e))) = rw e

pub other-code : (b : ℕ) → (External b → ⊥) → external_code b ≡ false
other-code b none = by (external_code b)
    (row-passes (λ k row. not (external_row row) || among k) b refl refl refl refl refl)
  where
    others : among b ≡ false
    others =
        rw (
          ne_eqb b 0x89 (λ e. none (inl e)),
          ne_eqb b 0x91 (λ e. none (inr (inl e))),
          ne_eqb b 0x98 (λ e. none (inr (inr (inl e)))),
          ne_eqb b 0xE6 (λ e. none (inr (inr (inr e)))),
        )

    by : (t : Bool) → (not t || among b) ≡ true → t ≡ false
    by false h = refl
    by true h = absurd (false≢true (rw others at h))

-- Where no byte passes a test, none at a place does.
neither : (a b : Bool) → (a || b) ≡ false → (a ≡ false) × (b ≡ false)
neither true b e = absurd (false≢true (sym e))
neither false b e = (refl, e)

none-at : (test : ℕ → Bool) (xs : List ℕ) → list_any test xs ≡ false → (at : ℕ) → at < length xs → test (byte_at xs at) ≡ false
none-at test [] none at h = absurd (omega arith)
none-at test (x ∷ xs) none zero h = (neither (test x) (list_any test xs) none).0
none-at test (x ∷ xs) none (suc at) h = none-at test xs (neither (test x) (list_any test xs) none).1 at (omega arith)

module _ (code : List ℕ) (plain : has_external_byte code ≡ false) where
  -- Bytes past the end read as 0, the code of LOAD_C.0.
  plain_byte : (at : ℕ) → external_code (byte_at code at) ≡ false
  unfolding row_of
  plain_byte at = by (ltb at (length code)) refl
    where
      by : (t : Bool) → ltb at (length code) ≡ t → external_code (byte_at code at) ≡ false
      by true l = none-at external_code code plain at (ltb-true at (length code) l)
      by false l = rw (byte_past code at (ltb-false at (length code) l))

  plain-decoded : (limit at : ℕ) (i : Instruction) (next : ℕ) → decode_at code limit at ≡ Ok (i, next) → is_external i ≡ false
  unfolding instruction_at
  plain-decoded limit at i next e = by (is_external i) refl
    where
      by : (t : Bool) → is_external i ≡ t → t ≡ false
      by false x = refl
      by true x =
          let b = byte_at code at in
          let r = external-found code limit at e x in
          sym (implied (is_external (made (row_of b) Normal code at)) (external_row (row_of b))
          (row-passes (λ k row. not (is_external (made row Normal code at)) || external_row row) b refl refl refl refl refl)
          (ap is_external r.same ∙ x)) ∙ plain_byte at

  from-plain : (p n at : ℕ) → places_from code p n at ≡ []
  from-plain p zero at = refl
  from-plain p (suc n) at = by (ltb at (region_end code p)) (decode_at code (region_end code p) at) refl (from-plain p n)
    where
      by : (b : Bool) (d : Decoded) → decode_at code (region_end code p) at ≡ d → ((next : ℕ) → places_from code p n next ≡ [])
          → cond b (places_at (places_from code p n) at d) [] ≡ []
      by true (Err Unserved) e rest = refl
      by true (Err Past) e rest = refl
      by true (Ok (i, next)) e rest = rw (plain-decoded (region_end code p) at i next e) (rest next)
      by false d e rest = refl

  over_plain : (p n : ℕ) → places_over code p n ≡ []
  over_plain p zero = from-plain 0 (length code) (entry_at code 0)
  over_plain p (suc n) = rw (from-plain p (length code) (entry_at code p)) (over_plain (p + 1) n)

  plain-places : library_places code ≡ []
  unfolding library_places
  plain-places = over_plain 1 (entry_count code - 1)

-- No word is among no places.
none_named : (f : ℕ → ℕ) (at n : ℕ) → (every (has []) (series f 4 at n) && true) ≡ eqb n 0
none_named f at zero = refl
none_named f at (suc n) = sym (ne_eqb (suc n) 0 (λ z. omega arith))

pub sound-plain : (r : List ℕ) → has_external_byte (code_of r) ≡ false → eqb (header_of r).relocation 0 ≡ relocation_sound r
unfolding relocation_sound
sound-plain r plain =
    rw (plain-places (code_of r) plain) (sym (none_named (word_at r) (relocation_at (header_of r)) (header_of r).relocation))
