-- Every region of the copy has a map of just what is reached, where every region of the record's code has a map: the walk over
-- the code finds the one of what is reached, which is the copy's too.
use mathlib.Core.Bool.{true}
use mathlib.Core.List.{List}
use mathlib.Core.Option.{Option, none, some}
use mathlib.Core.Path.{◌≡◌, refl}
use Prim.Native.Nat.{ℕ, ◌+◌, ◌<◌}
use native.Mathlib.Omega.{arith}
use borrow.Author.Tests.{eqb-true}
use Rattle.words.specs.Bytes.{Bytes}
use Rattle.header.specs.Header.{code_of}
use Rattle.record.specs.Number.{record_number}
use Rattle.entries.specs.Entries.{entry_count}
use Rattle.entries.specs.Libraries.{Library}
use Rattle.layout.specs.Cut.{Marks, cut, cut_of}
use Rattle.layout.proofs.Cutting.{Cutted}
use Rattle.faults.specs.Faults.{code_number}
use Rattle.stackmap.specs.Slots.{Slot}
use Rattle.stackmap.specs.Ways.{Subject}
use Rattle.stackmap.specs.StackMap.{Map, IsMap, Reached}
use Rattle.stackmap.specs.Walk.{States, walk_of}
use Rattle.stackmap.specs.Theorems.{WellCut, map_in}
use Rattle.stackmap.proofs.Placing.{in_told}
use Rattle.stackmap.proofs.Exact.{finds-maps, refutes-maps, finds-reached, has-reached}
use Rattle.module_set.specs.Members.{Members}
use Rattle.module_set.specs.Linked.{linked}
use Rattle.relocation.specs.Relocation.{relocation_sound}
use Rattle.relocated.proofs.EntryTable.{code-starts}
use Rattle.relocated.proofs.Recutting.{copy-starts}
use Rattle.relocated.proofs.Modules.{code-bytes, copy-bytes}
use Rattle.relocated.proofs.Numbers.{SameLibraries}
use Rattle.relocated.proofs.Maps.{record_subject, copy_subject, reached-copied, copy-map}

-- A cut of bytes is as the walk asks.
cut-well : (U : Subject) → Cutted U.code U.marks → Bytes U.code → WellCut U
cut-well U C b =
    record { counted = C.some; entries = C.entered; procedures = C.counted; within = C.inside; bytes = b }

-- A map of just what is reached.
pub record Least (U : Subject) (p : ℕ) : Type 0 where
  pub map : Map
  pub is-map : IsMap U p map
  pub reached : (at : ℕ) (l : List Slot) → map at ≡ some l → Reached U p at l

-- Where every region has a map, every region has that one.
module _ (U : Subject) (W : WellCut U) (maps : (p : ℕ) → p < entry_count U.code → (π : Map) × IsMap U p π) where
  walked : (p : ℕ) → p < entry_count U.code → (σ : States) → walk_of U ≡ some σ → Least U p
  walked p h σ e = record {
    map = map_in U p σ;
    is-map = finds-maps U W σ e p h;
    reached = λ at l g.
        let (s, told) = in_told U p σ at l g in
        let (q, k, R) = finds-reached U W σ e at l told in
        let own = finds-maps U W σ e q k in
        let t = (own.obeys at l (has-reached U q (map_in U q σ) own at l R)).start in
        let same : q ≡ p = omega (arith, eqb-true (U.marks at) (p + 1) s, eqb-true (U.marks at) (q + 1) t) in
        rw same at R;
  }

  pub least-maps : (p : ℕ) → p < entry_count U.code → Least U p
  least-maps p h = by (walk_of U) refl
    where
      by : (o : Option States) → walk_of U ≡ o → Least U p
      by none e =
          let (q, k, refuted) = refutes-maps U W e in
          let (π, is) = maps q k in
          absurd (refuted π is)
      by (some σ) e = walked p h σ e

module _ (S : Members) (r : List ℕ) (sound : record_number r ≡ 0) (placed : relocation_sound r ≡ true)
    (marks : Marks) (c : cut_of (code_of r) ≡ cut marks) (results : List ℕ) (L L' : List Library) (bytes : Bytes r) where
  pub record-well : WellCut (record_subject r L results marks)
  record-well = cut-well (record_subject r L results marks) (code-starts r sound marks c) (code-bytes r bytes)

  pub copy-well : linked S ≡ true → WellCut (copy_subject S r L' results marks)
  copy-well together =
      cut-well (copy_subject S r L' results marks) (copy-starts S r sound placed marks c) (copy-bytes S r together bytes)

  pub copy-maps : code_number (code_of r) L marks ≡ 0 → SameLibraries S r L L'
      → ((p : ℕ) → p < entry_count (code_of r) → (π : Map) × IsMap (record_subject r L results marks) p π)
      → (p : ℕ) → p < entry_count (code_of r) → Least (copy_subject S r L' results marks) p
  copy-maps clear agree maps p h =
      let M = least-maps (record_subject r L results marks) record-well maps p h in
      record {
        map = M.map;
        is-map = copy-map S r sound placed marks c results L L' clear agree p h M.map M.is-map M.reached;
        reached = λ at l e.
            reached-copied S r sound placed marks c results L L' clear agree p h M.map M.is-map at l (M.reached at l e);
      }
