-- The copy has no number from 12 to 14 where the record's code has none: at each start the shape is the same, but for the
-- library number, and so are its targets, its entry and its callee's module.
use mathlib.Core.Bool.{true}
use mathlib.Core.List.{List}
use mathlib.Core.Path.{◌≡◌, refl}
use Prim.Native.Nat.{ℕ, ◌≤◌}
use native.Mathlib.Omega.{arith}
use Rattle.header.specs.Header.{header_of, code_of}
use Rattle.record.specs.Number.{record_number}
use Rattle.entries.specs.Entries.{entry_at, region_end}
use Rattle.entries.specs.Libraries.{Library, library_in}
use Rattle.opcode.specs.Decode.{decode_at}
use Rattle.std.specs.Prelude.{Ok}
use Rattle.opcode.specs.declared.instruction.Instruction.{Instruction}
use Rattle.shape.specs.Shape.{shape_of}
use Rattle.shape.specs.Linkage.{linkage_of}
use Rattle.shape.specs.declared.Shape.{Shape}
use Rattle.shape.specs.declared.Shape.TheVariants.{Straight, Pop, Jump, JumpC, JumpTF, Iter}
use Rattle.shape.specs.declared.Shape.TheVariants.{Next, Switch, Leave, Call, CallExternal, Enter, Rtn}
use Rattle.successors.specs.Successors.{targets}
use Rattle.layout.specs.Cut.{Marks, cut, cut_of, starts_in}
use Rattle.faults.specs.Faults.{strays, misplaced_by, misplaced, uncallable_by, uncallable, code_number}
use Rattle.module_set.specs.Members.{Members, resolved}
use Rattle.relocation.specs.Relocation.{relocation_sound, relocated}
use Rattle.relocated.proofs.EntryTable.{code-starts, copy-entry, copy-count}
use Rattle.relocated.proofs.Decoding.{start-import, original}
use Rattle.relocated.proofs.Shapes.{shape_by, calls-library}
use Rattle.relocated.proofs.Tables.{copy-targets, copy-exit}
use Rattle.relocated.proofs.Faultless.{Faultless, faultless, numberless-code}

-- The libraries of the record's code by its import list, and those of the copy by the numbers of modules.
abbrev pub SameLibraries : Members → List ℕ → (L L' : List Library) → Type 0
SameLibraries S r L L' = (l : ℕ) → 1 ≤ l → l ≤ (header_of r).imports → library_in L' (resolved S r l) ≡ library_in L l

pub code-faultless : (r : List ℕ) → record_number r ≡ 0 → (marks : Marks) → cut_of (code_of r) ≡ cut marks → (L : List Library)
    → code_number (code_of r) L marks ≡ 0 → Faultless (code_of r) L marks
code-faultless r sound marks c L clear = faultless (code_of r) L marks clear (code-starts r sound marks c).inside

module _ (S : Members) (r : List ℕ) (sound : record_number r ≡ 0) (placed : relocation_sound r ≡ true)
    (marks : Marks) (c : cut_of (code_of r) ≡ cut marks) where
  -- One start, its instruction and its shape.
  module _ (p at : ℕ) (i : Instruction) (next : ℕ) (s : starts_in marks p at ≡ true)
      (d : decode_at (code_of r) (region_end (code_of r) p) at ≡ Ok (i, next)) where
    targets-copied : (k : Shape) → shape_of i ≡ k
        → targets (relocated S r) at next (shape_by (resolved S r) k) ≡ targets (code_of r) at next k
    targets-copied (Straight pops pushes) e = refl
    targets-copied (Pop n) e = refl
    targets-copied (Jump d) e = refl
    targets-copied (JumpC d) e = refl
    targets-copied (JumpTF d) e = refl
    targets-copied (Iter d) e = refl
    targets-copied Next e = refl
    targets-copied (Switch t n) e =
        rw (
          copy-exit S r sound placed marks c p at s i next d t n e,
          copy-targets S r sound placed marks c p at s i next d t n e,
        )
    targets-copied Leave e = refl
    targets-copied (Call q) e = refl
    targets-copied (CallExternal l q) e = refl
    targets-copied (Enter par) e = refl
    targets-copied Rtn e = refl

    entry-copied : entry_at (relocated S r) p ≡ entry_at (code_of r) p
    entry-copied = copy-entry S r sound placed p ((code-starts r sound marks c).counted p at s)

    misplaced-copied : (k : Shape)
        → misplaced_by (relocated S r) p at (linkage_of (shape_by (resolved S r) k)) ≡ misplaced_by (code_of r) p at (linkage_of k)
    misplaced-copied (Straight pops pushes) = rw entry-copied
    misplaced-copied (Pop n) = rw entry-copied
    misplaced-copied (Jump d) = rw entry-copied
    misplaced-copied (JumpC d) = rw entry-copied
    misplaced-copied (JumpTF d) = rw entry-copied
    misplaced-copied (Iter d) = rw entry-copied
    misplaced-copied Next = rw entry-copied
    misplaced-copied (Switch t n) = rw entry-copied
    misplaced-copied Leave = rw entry-copied
    misplaced-copied (Call q) = rw entry-copied
    misplaced-copied (CallExternal l q) = rw entry-copied
    misplaced-copied (Enter par) = rw entry-copied
    misplaced-copied Rtn = rw entry-copied

    callable-copied : (L L' : List Library) → SameLibraries S r L L' → (k : Shape) → shape_of i ≡ k
        → uncallable_by (relocated S r) L' (linkage_of (shape_by (resolved S r) k)) ≡ uncallable_by (code_of r) L (linkage_of k)
    callable-copied L L' agree (Straight pops pushes) e = refl
    callable-copied L L' agree (Pop n) e = refl
    callable-copied L L' agree (Jump d) e = refl
    callable-copied L L' agree (JumpC d) e = refl
    callable-copied L L' agree (JumpTF d) e = refl
    callable-copied L L' agree (Iter d) e = refl
    callable-copied L L' agree Next e = refl
    callable-copied L L' agree (Switch t n) e = refl
    callable-copied L L' agree Leave e = refl
    callable-copied L L' agree (Call q) e = rw (copy-count S r sound placed)
    callable-copied L L' agree (CallExternal l q) e =
        let is = calls-library i l q e in
        let both = start-import S r sound placed marks c p at s i next d is.0 in
        rw (agree l (omega (arith, is.1, both.0)) (omega (arith, is.1, both.1)))
    callable-copied L L' agree (Enter par) e = refl
    callable-copied L L' agree Rtn e = refl

  module _ (L : List Library) (clear : code_number (code_of r) L marks ≡ 0) where
    pub copy-numberless : (L' : List Library) → SameLibraries S r L L' → code_number (relocated S r) L' marks ≡ 0
    unfolding strays misplaced uncallable
    copy-numberless L' agree =
        numberless-code (relocated S r) L' marks (record {
          no_stray = λ p at j next s d.
              let O = original S r sound placed marks c p at s j next d in
              rw (O.shape, targets-copied p at O.i next s O.decoded (shape_of O.i) refl)
              ((code-faultless r sound marks c L clear).no_stray p at O.i next s O.decoded);
          in_place = λ p at j next s d.
              let O = original S r sound placed marks c p at s j next d in
              rw (O.shape, misplaced-copied p at O.i next s O.decoded (shape_of O.i))
              ((code-faultless r sound marks c L clear).in_place p at O.i next s O.decoded);
          callable = λ p at j next s d.
              let O = original S r sound placed marks c p at s j next d in
              rw (O.shape, callable-copied p at O.i next s O.decoded L L' agree (shape_of O.i) refl)
              ((code-faultless r sound marks c L clear).callable p at O.i next s O.decoded);
        })
