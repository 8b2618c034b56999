-- Where library bytes lie. An external instruction has three bytes, by its row of the table of codes, and the last ends within
-- its region; so its library byte lies in the code.
use mathlib.Core.Bool.{Bool, true, false, cond, not, ◌&&◌, ◌||◌, false≢true, and-eq-true_iff}
use mathlib.Core.List.{List, [], ◌∷◌}
use mathlib.Core.Path.{◌≡◌, ◌∙◌, refl, ap}
use Prim.Native.Nat.{ℕ, zero, suc, ◌+◌, ◌-◌, ◌≤◌}
use native.Mathlib.Omega.{arith}
use lib.Dec.{eqb, ltb}
use lib.ListN.{length}
use borrow.Author.Tests.{eqb-true}
use Rattle.words.specs.Bytes.{byte_at}
use Rattle.operand.specs.Operand.{Operands, operand, operand2, fixed_of, each_of, extent}
use Rattle.entries.specs.Entries.{entry_at, entry_count, entries_sound, region_end}
use Rattle.entries.proofs.Ordered.{Ordered, ordered}
use Rattle.opcode.specs.Table.{Row, row, unserved, allows, row_of}
use Rattle.opcode.specs.Length.{length_of, length_in}
use Rattle.opcode.specs.Decode.{made, instruction_at, decode_at}
use Rattle.opcode.proofs.Rows.{row-passes}
use Rattle.opcode.proofs.Found.{Found, Origin, single, double, origin, ends}
use Rattle.opcode.specs.Decode.{Decoded}
use Rattle.opcode.specs.declared.DecodeError.TheVariants.{Unserved, Past}
use Rattle.std.specs.Prelude.{Err, Ok}
use Rattle.opcode.specs.declared.instruction.Mode.{Mode}
use Rattle.opcode.specs.declared.instruction.Mode.TheVariants.{Normal, Double}
use Rattle.opcode.specs.declared.instruction.Instruction.{Instruction}
use Rattle.relocation.specs.Places.{is_external, library_byte, places_at, places_from, places_over, library_places}
use Rattle.relocation.proofs.Marking.{Below, below-append}

-- An external instruction stands in normal mode, and has three bytes.
abbrev three : Mode → Operands → Bool
three Normal operands = eqb (fixed_of operands) 3 && eqb (each_of operands) 0
three Double operands = false

module _ (m : Mode) (code : List ℕ) (at : ℕ) where
  abbrev tested : Row → Bool
  tested unserved = true
  tested (row operands modes make) =
      cond (allows modes m)
      (not (is_external (make m (operand operands code at) (operand2 operands code at))) || three m operands) true

  -- What the test says of a row that is served.
  served : (r : Row) → (length_of r m code at ≡ 0 → ⊥) → tested r ≡ true → is_external (made r m code at) ≡ true
      → (o : Operands) × (three m o ≡ true) × (length_of r m code at ≡ extent o code at)
  served unserved s t x = absurd (s refl)
  served (row operands modes make) s t x =
      by (allows modes m) (is_external (make m (operand operands code at) (operand2 operands code at))) s t x
    where
      by : (a e : Bool) → (cond a (extent operands code at) 0 ≡ 0 → ⊥) → cond a (not e || three m operands) true ≡ true →
          e ≡ true
          → (o : Operands) × (three m o ≡ true) × (cond a (extent operands code at) 0 ≡ extent o code at)
      by true true s t x = (operands, t, refl)
      by true false s t x = absurd (false≢true x)
      by false e s t x = absurd (s refl)

three-long : (o : Operands) (code : List ℕ) (at : ℕ) → three Normal o ≡ true → extent o code at ≡ 3
three-long o code at t =
    let both = (and-eq-true_iff (eqb (fixed_of o) 3) (eqb (each_of o) 0)).0 t in
    let fixed : fixed_of o ≡ 3 = eqb-true (fixed_of o) 3 both.0 in
    let each : each_of o ≡ 0 = eqb-true (each_of o) 0 both.1 in
    rw (fixed, each) (omega arith)

-- No DOUBLE stands before an external instruction.
pub external-found :
    (code : List ℕ) (limit at : ℕ) {i : Instruction} {next : ℕ} → decode_at code limit at ≡ Ok (i, next) → is_external i ≡ true →
    Found Normal code limit at i next
unfolding length_in instruction_at
external-found code limit at {i} {next} e x = by (origin code limit i next at e)
  where
    by : Origin code limit at i next → Found Normal code limit at i next
    by (single f r) = r
    by (double f r) =
        let b = byte_at code (at + 1) in
        let s = served Double code (at + 1) (row_of b) r.served
        (row-passes (λ k. tested Double code (at + 1)) b refl refl refl refl refl) (ap is_external r.same ∙ x) in
        absurd (false≢true s.1)

pub external-length :
    (code : List ℕ) (limit at : ℕ) {i : Instruction} {next : ℕ} → decode_at code limit at ≡ Ok (i, next) → is_external i ≡ true →
    next ≡ at + 3
unfolding length_in instruction_at
external-length code limit at e x =
    let r = external-found code limit at e x in
    let b = byte_at code at in
    let s = served Normal code at (row_of b) r.served
    (row-passes (λ k. tested Normal code at) b refl refl refl refl refl) (ap is_external r.same ∙ x) in
    let long : length_in Normal code at ≡ 3 = s.2 ∙ three-long s.0 code at s.1 in
    omega (arith, r.ends, long)

module _ (code : List ℕ) (o : Ordered code) where
  byte-below : (limit at : ℕ) (i : Instruction) (next : ℕ) → decode_at code limit at ≡ Ok (i, next) → limit ≤ length code →
      Below (length code) (library_byte at i)
  byte-below limit at i next e l = by (is_external i) refl
    where
      by : (b : Bool) → is_external i ≡ b → Below (length code) (cond b ((at + 1) ∷ []) [])
      by true x = (omega (arith, external-length code limit at e x, ends code limit at e), tt)
      by false x = tt

  from-below : (p n at : ℕ) → Below (length code) (places_from code p n at)
  from-below p zero at = tt
  from-below p (suc n) at =
      by (ltb at (region_end code p)) (decode_at code (region_end code p) at) refl (from-below p n)
    where
      by : (b : Bool) (d : Decoded) → decode_at code (region_end code p) at ≡ d →
          ((next : ℕ) → Below (length code) (places_from code p n next))
          → Below (length code) (cond b (places_at (places_from code p n) at d) [])
      by true (Err Unserved) e rest = tt
      by true (Err Past) e rest = tt
      by true (Ok (i, next)) e rest =
          below-append (length code) (library_byte at i) (places_from code p n next)
          (byte-below (region_end code p) at i next e (o.ends p)) (rest next)
      by false d e rest = tt

  over_below : (p n : ℕ) → Below (length code) (places_over code p n)
  over_below p zero = from-below 0 (length code) (entry_at code 0)
  over_below p (suc n) =
      below-append (length code) (places_from code p (length code) (entry_at code p)) (places_over code (p + 1) n)
      (from-below p (length code) (entry_at code p)) (over_below (p + 1) n)

pub places-below : (code : List ℕ) → entries_sound code ≡ true → Below (length code) (library_places code)
unfolding library_places
places-below code e = over_below code (ordered code e) 1 (entry_count code - 1)
