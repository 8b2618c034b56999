-- The copy decodes like the record's code, but for library numbers: within an instruction that is visited, the library byte of
-- an external one is the only byte that may differ.
use mathlib.Core.Bool.{true, false, ◌&&◌, and-false}
use mathlib.Core.List.{List}
use mathlib.Core.Path.{◌≡◌, ◌∙◌, refl, sym, ap}
use Prim.Native.Nat.{ℕ, ◌+◌, ◌<◌, ◌≤◌}
use native.Mathlib.Omega.{arith}
use borrow.Author.Tests.{eq-eqb, ne_eqb}
use lib.Dec.{eqb}
use lib.ListN.{length}
use Rattle.words.specs.Bytes.{byte_at}
use Rattle.entries.specs.Entries.{entry_at, entry_count, region_end}
use Rattle.header.specs.Header.{header_of, code_of}
use Rattle.record.specs.Number.{record_number}
use Rattle.opcode.specs.Decode.{decode_at}
use Rattle.opcode.proofs.Found.{same-decoded, ends}
use Rattle.std.specs.Prelude.{Ok}
use Rattle.opcode.specs.declared.instruction.Instruction.{Instruction}
use Rattle.shape.specs.Shape.{shape_of}
use Rattle.layout.specs.Cut.{Marks, cut, cut_of, starts_in}
use Rattle.entries.proofs.Ordered.{ordered}
use Rattle.module_set.specs.Members.{Members, resolved}
use Rattle.module_set.specs.Linked.{has}
use Rattle.relocation.specs.Places.{is_external}
use Rattle.relocation.specs.Relocation.{relocations_of, relocation_sound, relocated}
use Rattle.relocated.proofs.Renumbering.{renumbered_by, library_of}
use Rattle.relocated.proofs.External.{external-long, external-library, decode-renumbered}
use Rattle.relocated.proofs.Copying.{places-agree, place-import, copy-kept, copy-changed}
use Rattle.relocated.proofs.Places.{Visits}
use Rattle.relocated.proofs.Regions.{visited-places}
use Rattle.relocated.proofs.EntryTable.{code-sound, code-starts, copy-region}
use Rattle.relocated.proofs.Starts.{start-visits}
use Rattle.relocated.proofs.Shapes.{shape_by, renumbered-shape}

-- The instruction with the number of the module for that of the library.
abbrev pub renumbered : Members → List ℕ → Instruction → Instruction
renumbered S r = renumbered_by (resolved S r)

-- What an instruction of the copy is in the record's code.
pub record Original (S : Members) (r : List ℕ) (p at : ℕ) (j : Instruction) (next : ℕ) : Type 0 where
  pub i : Instruction
  pub decoded : decode_at (code_of r) (region_end (code_of r) p) at ≡ Ok (i, next)
  pub same : j ≡ renumbered S r i
  pub shape : shape_of j ≡ shape_by (resolved S r) (shape_of i)

module _ (S : Members) (r : List ℕ) (sound : record_number r ≡ 0) (placed : relocation_sound r ≡ true) where
  -- An instruction that cutting the code visits.
  module _ (p at : ℕ) (i : Instruction) (next : ℕ) (h : p < entry_count (code_of r))
      (v : Visits (code_of r) p (length (code_of r)) (entry_at (code_of r) p) at)
      (d : decode_at (code_of r) (region_end (code_of r) p) at ≡ Ok (i, next)) where
    listed : (x : ℕ) → at ≤ x → x < next → has (relocations_of r) x ≡ (is_external i && eqb x (at + 1))
    listed x l u = places-agree r placed x ∙ visited-places (code_of r) (code-sound r sound) p at next x i h v d l u

    -- Its library byte is one of the places.
    library-listed : is_external i ≡ true → (at + 1 < next) × (has (relocations_of r) (at + 1) ≡ true)
    library-listed x =
        let long : next ≡ at + 3 = external-long (code_of r) (region_end (code_of r) p) at i next d x in
        (omega arith, listed (at + 1) (omega arith) (omega arith) ∙ rw (x, eq-eqb (at + 1) (at + 1) refl))

    visited-kept : (x : ℕ) → at ≤ x → x < next → (is_external i && eqb x (at + 1)) ≡ false
        → byte_at (relocated S r) x ≡ byte_at (code_of r) x
    visited-kept x l u z = copy-kept S r x (listed x l u ∙ z)

    visited-import : is_external i ≡ true → (1 ≤ library_of i) × (library_of i ≤ (header_of r).imports)
    visited-import x =
        let same : library_of i ≡ byte_at (code_of r) (at + 1) =
        external-library (code_of r) (region_end (code_of r) p) at i next d x in
        let found = sym (places-agree r placed (at + 1)) ∙ (library-listed x).1 in
        let both = place-import r placed (at + 1) found in
        (omega (arith, both.0), omega (arith, both.1))

    visited-library : is_external i ≡ true → byte_at (relocated S r) (at + 1) ≡ resolved S r (library_of i)
    visited-library x =
        let code = code_of r in
        let K = library-listed x in
        rw (external-library code (region_end code p) at i next d x)
        (copy-changed S r (at + 1) K.1
        (omega (arith, K.0, (ends code (region_end code p) at d).1, (ordered code (code-sound r sound)).ends p)))

    pub visited-decodes : decode_at (relocated S r) (region_end (relocated S r) p) at ≡ Ok ((renumbered S r i), next)
    visited-decodes =
        let code = code_of r in
        rw (copy-region S r sound placed p h)
        (decode-renumbered code (relocated S r) (region_end code p) at i next (resolved S r) d visited-kept
        (λ x. visited-library x ∙ ap (resolved S r) (external-library code (region_end code p) at i next d x)))

  -- An instruction that starts in the cut of the code.
  module _ (marks : Marks) (c : cut_of (code_of r) ≡ cut marks) (p at : ℕ) (s : starts_in marks p at ≡ true)
      (i : Instruction) (next : ℕ) (d : decode_at (code_of r) (region_end (code_of r) p) at ≡ Ok (i, next)) where
    counted : p < entry_count (code_of r)
    counted = (code-starts r sound marks c).counted p at s

    visited : Visits (code_of r) p (length (code_of r)) (entry_at (code_of r) p) at
    visited = start-visits (code_of r) marks c p at s

    pub copy-decodes : decode_at (relocated S r) (region_end (relocated S r) p) at ≡ Ok ((renumbered S r i), next)
    copy-decodes = visited-decodes p at i next counted visited d

    -- All bytes of an instruction that is not external, and the first byte of every one.
    pub inner-bytes : is_external i ≡ false → (x : ℕ) → at ≤ x → x < next → byte_at (relocated S r) x ≡ byte_at (code_of r) x
    inner-bytes e x l u = visited-kept p at i next counted visited d x l u (rw e)

    pub first_byte : byte_at (relocated S r) at ≡ byte_at (code_of r) at
    first_byte =
        visited-kept p at i next counted visited d at (omega arith) (ends (code_of r) (region_end (code_of r) p) at d).0
        (rw (ne_eqb at (at + 1) (λ z. omega arith)) (and-false (is_external i)))

    -- An external instruction's library number is one of the import list.
    pub start-import : is_external i ≡ true → (1 ≤ library_of i) × (library_of i ≤ (header_of r).imports)
    start-import = visited-import p at i next counted visited d

    -- Its library byte in the copy is the module's number.
    pub library-byte : is_external i ≡ true → byte_at (relocated S r) (at + 1) ≡ resolved S r (library_of i)
    library-byte = visited-library p at i next counted visited d

  pub original : (marks : Marks) → cut_of (code_of r) ≡ cut marks → (p at : ℕ) → starts_in marks p at ≡ true
      → (j : Instruction) (next : ℕ) → decode_at (relocated S r) (region_end (relocated S r) p) at ≡ Ok (j, next)
      → Original S r p at j next
  original marks c p at s j next d =
      let (i, after, e) = (code-starts r sound marks c).decoded p at s in
      let copied = copy-decodes marks c p at s i after e in
      let both = same-decoded (sym d ∙ copied) in
      let same : j ≡ renumbered S r i = both.0 in
      let place : after ≡ next = sym both.1 in
      record { i = i; decoded = rw place at e; same = same; shape = rw same (renumbered-shape (resolved S r) i) }
