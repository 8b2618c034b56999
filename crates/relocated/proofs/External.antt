-- External instructions: their code byte is one of four, none behind DOUBLE, and their library byte the next one; another
-- library byte gives the same instruction with its number. Read off the rows of the tables.
use mathlib.Core.Bool.{Bool, true, false, cond, not, ◌||◌, ◌&&◌, and-eq-true_iff, false≢true}
use mathlib.Core.List.{List, [], ◌∷◌}
use mathlib.Core.Path.{◌≡◌, ◌∙◌, refl, sym, ap}
use Prim.Native.Nat.{ℕ, ◌+◌, ◌<◌, ◌≤◌}
use native.Mathlib.Nat.{zero-mul}
use native.Mathlib.Omega.{arith}
use borrow.Author.Tests.{eqb-true, ne_eqb}
use lib.Dec.{eqb}
use Rattle.words.specs.Bytes.{byte_at}
use Rattle.operand.specs.Operand.{bytes, operand, operand2}
use Rattle.opcode.specs.Table.{Row, row, unserved, normal, allows, Entry, entry, row_of}
use Rattle.opcode.specs.Table.{short_table, data_table, operation_table, control_table}
use Rattle.opcode.specs.Length.{length_of, length_in}
use Rattle.opcode.specs.Decode.{made, instruction_at, decode_at}
use Rattle.opcode.proofs.Rows.{Every, row-every}
use Rattle.opcode.proofs.Found.{Found, Origin, single, double, origin, decoded}
use Rattle.std.specs.Prelude.{Ok}
use Rattle.opcode.specs.declared.instruction.Mode.{Mode}
use Rattle.opcode.specs.declared.instruction.Mode.TheVariants.{Normal, Double}
use Rattle.opcode.specs.declared.instruction.Base.TheVariants.{External}
use Rattle.opcode.specs.declared.instruction.Instruction.{Instruction}
use Rattle.opcode.specs.declared.instruction.Instruction.TheVariants.{Load, LoadAddress, Store, CallExternal}
use Rattle.relocation.specs.Places.{is_external}
use Rattle.relocated.proofs.Reading.{decode-same}
use Rattle.relocated.proofs.Renumbering.{renumbered_by, inner-kept, library_of}

-- The code bytes.
abbrev is_outside : ℕ → Bool
is_outside code = eqb code 0x89 || (eqb code 0x91 || (eqb code 0x98 || eqb code 0xE6))

-- A row whose first operand is a library number.
record Outer (r : Row) : Type 0 where
  make : Mode → ℕ → ℕ → Instruction
  same : r ≡ row bytes normal make
  library : (n k : ℕ) → library_of (make Normal n k) ≡ n
  renumbers : (f : ℕ → ℕ) (n k : ℕ) → renumbered_by f (make Normal n k) ≡ make Normal (f n) k

outer-row : (code : ℕ) → is_outside code ≡ true → Outer (row_of code)
unfolding row_of
outer-row code = by (eqb code 0x89) refl (eqb code 0x91) refl (eqb code 0x98) refl (eqb code 0xE6) refl
  where
    by : (a : Bool) → eqb code 0x89 ≡ a → (b : Bool) → eqb code 0x91 ≡ b → (c : Bool) → eqb code 0x98 ≡ c
        → (d : Bool) → eqb code 0xE6 ≡ d → (a || (b || (c || d))) ≡ true → Outer (row_of code)
    by true e b f c g d h t =
        rw (eqb-true code 0x89 e) (record {
          make = λ m n k. Load (External n) m k;
          same = refl;
          library = λ n k. refl;
          renumbers = λ f n k. refl;
        })
    by false e true f c g d h t =
        rw (eqb-true code 0x91 f) (record {
          make = λ m n k. LoadAddress (External n) k;
          same = refl;
          library = λ n k. refl;
          renumbers = λ f n k. refl;
        })
    by false e false f true g d h t =
        rw (eqb-true code 0x98 g) (record {
          make = λ m n k. Store (External n) m k;
          same = refl;
          library = λ n k. refl;
          renumbers = λ f n k. refl;
        })
    by false e false f false g true h t =
        rw (eqb-true code 0xE6 h) (record {
          make = λ m n k. CallExternal n k;
          same = refl;
          library = λ n k. refl;
          renumbers = λ f n k. refl;
        })
    by false e false f false g false h t = absurd (false≢true t)

-- A test of every row, with its key, by computing.
abbrev each : (ℕ → Row → Bool) → List Entry → Bool
each f [] = true
each f (entry k r ∷ rest) = f k r && each f rest

abbrev Passes : (ℕ → Row → Bool) → ℕ → Row → Type 0
Passes f k r = f k r ≡ true

all_pass : (f : ℕ → Row → Bool) (t : List Entry) → each f t ≡ true → Every (Passes f) t
all_pass f [] e = tt
all_pass f (entry k r ∷ rest) e =
    let p = (and-eq-true_iff (f k r) (each f rest)).0 e in
    (p.0, all_pass f rest p.1)

row-passes :
    (f : ℕ → Row → Bool) (code : ℕ) →
    f code unserved ≡ true →
    each (λ k. f code) short_table ≡ true → each f data_table ≡ true → each f operation_table ≡ true → each f control_table ≡ true →
    f code (row_of code) ≡ true
row-passes f code u s d o c =
    row-every (Passes f) code u (all_pass (λ k. f code) short_table s) (all_pass f data_table d) (all_pass f operation_table o)
    (all_pass f control_table c)

module _ (m : Mode) (code : List ℕ) (at : ℕ) where
  -- What a row makes in a mode that it serves is external only with the byte.
  abbrev agrees : ℕ → Row → Bool
  agrees first unserved = true
  agrees first (row operands modes make) =
      let i = make m (operand operands code at) (operand2 operands code at) in
      cond (allows modes m) (not (is_external i) || is_outside first) true

  agreed : (r : Row) (first : ℕ) → (length_of r m code at ≡ 0 → ⊥) → agrees first r ≡ true
      → is_external (made r m code at) ≡ true → is_outside first ≡ true
  agreed unserved first s e x = absurd (s refl)
  agreed (row operands modes make) first s e x = by (allows modes m) _ _ _ s e x
    where
      by : (b : Bool) (n : ℕ) (t u : Bool) → (cond b n 0 ≡ 0 → ⊥) → cond b (not t || u) true ≡ true → t ≡ true → u ≡ true
      by true n true u s e x = e
      by true n false u s e x = absurd (false≢true x)
      by false n t u s e x = absurd (s refl)

-- Another code with the same bytes but for the library byte.
outer-found : (c d : List ℕ) (f : ℕ → ℕ) (limit at : ℕ) (i : Instruction) (next : ℕ) → Outer (row_of (byte_at c at))
    → Found Normal c limit at i next → next ≡ at + 3
    → byte_at d at ≡ byte_at c at → byte_at d (at + 1) ≡ f (byte_at c (at + 1)) → byte_at d (at + 2) ≡ byte_at c (at + 2)
    → Found Normal d limit at (renumbered_by f i) next
unfolding length_in instruction_at
outer-found c d f limit at i next O F long first second third =
    let n = byte_at c (at + 1) in
    let k = byte_at c (at + 2) in
    let made-here : made (row_of (byte_at c at)) Normal c at ≡ O.make Normal n k = rw O.same in
    let made-there : made (row_of (byte_at d at)) Normal d at ≡ O.make Normal (f n) k = rw (first, O.same, second, third) in
    record {
      served = rw (first, O.same, zero-mul) (λ z. omega arith);
      same = made-there ∙ (sym (O.renumbers f n k) ∙ ap (renumbered_by f) (sym made-here ∙ F.same));
      ends = rw (first, O.same, zero-mul) (omega arith);
      within = F.within;
    }

module _ (code : List ℕ) (limit at : ℕ) (i : Instruction) (next : ℕ) where
  -- What is known where an external instruction is decoded.
  record Outside : Type 0 where
    unprefixed : byte_at code at ≡ 0xF5 → ⊥
    found : Found Normal code limit at i next
    outer : Outer (row_of (byte_at code at))

  external-origin : decode_at code limit at ≡ Ok (i, next) → is_external i ≡ true → Outside
  unfolding length_in instruction_at
  external-origin e x = by (origin code limit i next at e)
    where
      by : Origin code limit at i next → Outside
      by (single f F) =
          let b = byte_at code at in
          let is : is_outside b ≡ true =
          agreed Normal code at (row_of b) b F.served (row-passes (agrees Normal code at) b refl refl refl refl refl)
          (rw F.same x) in
          record { unprefixed = f; found = F; outer = outer-row b is }
      by (double f F) =
          let b = byte_at code (at + 1) in
          let test : ℕ → Row → Bool = λ k. agrees Double code (at + 1) 0xF5 in
          absurd (false≢true (agreed Double code (at + 1) (row_of b) 0xF5 F.served (row-passes test b refl refl refl refl refl)
          (rw F.same x)))

  module _ (e : decode_at code limit at ≡ Ok (i, next)) (x : is_external i ≡ true) where
    pub external-long : next ≡ at + 3
    unfolding length_in
    external-long =
        let K = external-origin e x in
        sym (rw (K.outer.same, zero-mul) at K.found.ends)

    pub external-library : library_of i ≡ byte_at code (at + 1)
    unfolding instruction_at
    external-library =
        let K = external-origin e x in
        rw (← K.found.same, K.outer.same) (K.outer.library (byte_at code (at + 1)) (byte_at code (at + 2)))

    module _ (other : List ℕ) (f : ℕ → ℕ) where
      pub decode-external : byte_at other at ≡ byte_at code at → byte_at other (at + 1) ≡ f (byte_at code (at + 1))
          → byte_at other (at + 2) ≡ byte_at code (at + 2) → decode_at other limit at ≡ Ok ((renumbered_by f i), next)
      unfolding length_in instruction_at
      decode-external first second third =
          let K = external-origin e x in
          decoded other limit (renumbered_by f i) next at (single (λ z. K.unprefixed (sym first ∙ z))
          (outer-found code other f limit at i next K.outer K.found external-long first second third))

-- The same of every instruction.
pub decode-renumbered : (c d : List ℕ) (limit at : ℕ) (i : Instruction) (next : ℕ) (f : ℕ → ℕ) → decode_at c limit at ≡ Ok (i, next)
    → ((x : ℕ) → at ≤ x → x < next → (is_external i && eqb x (at + 1)) ≡ false → byte_at d x ≡ byte_at c x)
    → (is_external i ≡ true → byte_at d (at + 1) ≡ f (byte_at c (at + 1)))
    → decode_at d limit at ≡ Ok ((renumbered_by f i), next)
decode-renumbered c d limit at i next f e kept changed = by (is_external i) refl
  where
    by : (b : Bool) → is_external i ≡ b → decode_at d limit at ≡ Ok ((renumbered_by f i), next)
    by true x =
        let long : next ≡ at + 3 = external-long c limit at i next e x in
        decode-external c limit at i next e x d f
        (kept at (omega arith) (omega arith) (rw (x, ne_eqb at (at + 1) (λ z. omega arith)))) (changed x)
        (kept (at + 2) (omega arith) (omega arith) (rw (x, ne_eqb (at + 2) (at + 1) (λ z. omega arith))))
    by false x =
        rw (inner-kept f i x) (decode-same c d limit at i next e (λ a l u. kept a l u (rw x)))
