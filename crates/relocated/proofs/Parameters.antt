-- Each procedure has in the copy the parameters that it has in the record's code: procedures from 1 up begin with ENTER (13),
-- which the copy has too.
use mathlib.Core.Bool.{true, false, false≢true}
use mathlib.Core.List.{List}
use mathlib.Core.Path.{◌≡◌, ◌∙◌, refl, sym, ap}
use Prim.Native.Nat.{ℕ, zero, suc, ◌<◌}
use native.Mathlib.Omega.{arith}
use borrow.Author.Tests.{eq-eqb, ne_eqb}
use Rattle.header.specs.Header.{code_of}
use Rattle.record.specs.Number.{record_number}
use Rattle.entries.specs.Entries.{entry_at, entry_count, region_end}
use Rattle.entries.specs.Libraries.{Library}
use Rattle.operand.specs.Operand.{operand}
use Rattle.opcode.specs.Codes.{enter_operands}
use Rattle.shape.specs.Shape.{shape_of}
use Rattle.shape.specs.Linkage.{linkage_of}
use Rattle.shape.specs.declared.Shape.{Shape}
use Rattle.shape.specs.declared.Shape.TheVariants.{Straight, Pop, Jump, JumpC, JumpTF, Iter}
use Rattle.shape.specs.declared.Shape.TheVariants.{Next, Switch, Leave, Call, CallExternal, Enter, Rtn}
use Rattle.shape.proofs.Origins.{enter-parameters}
use Rattle.layout.specs.Cut.{Marks, cut, cut_of}
use Rattle.faults.specs.Faults.{bare, misplaced_by, misplaced, code_number}
use Rattle.stackmap.specs.Ways.{parameters_in}
use Rattle.module_set.specs.Members.{Members, resolved}
use Rattle.relocation.specs.Relocation.{relocation_sound, relocated}
use Rattle.relocated.proofs.EntryTable.{code-starts, copy-entry}
use Rattle.relocated.proofs.Decoding.{renumbered, copy-decodes}
use Rattle.relocated.proofs.Shapes.{shape_by, renumbered-shape}
use Rattle.relocated.proofs.Numbers.{code-faultless}

-- Anything else at the entry would be misplaced.
module _ (code : List ℕ) (p : ℕ) where
  never-bare : bare code (suc p) (entry_at code (suc p)) ≡ false → ⊥
  never-bare e =
      false≢true (sym e ∙ rw (eq-eqb (entry_at code (suc p)) (entry_at code (suc p)) refl, ne_eqb (suc p) 0 (λ z. omega arith)))

  enters : (k : Shape) → misplaced_by code (suc p) (entry_at code (suc p)) (linkage_of k) ≡ false → (par : ℕ) × (k ≡ Enter par)
  enters (Straight pops pushes) e = absurd (never-bare e)
  enters (Pop n) e = absurd (never-bare e)
  enters (Jump d) e = absurd (never-bare e)
  enters (JumpC d) e = absurd (never-bare e)
  enters (JumpTF d) e = absurd (never-bare e)
  enters (Iter d) e = absurd (never-bare e)
  enters Next e = absurd (never-bare e)
  enters (Switch t n) e = absurd (never-bare e)
  enters Leave e = absurd (never-bare e)
  enters (Call q) e = absurd (never-bare e)
  enters (CallExternal l q) e = absurd (never-bare e)
  enters (Enter par) e = (par, refl)
  enters Rtn e = absurd (never-bare e)

module _ (S : Members) (r : List ℕ) (sound : record_number r ≡ 0) (placed : relocation_sound r ≡ true)
    (marks : Marks) (c : cut_of (code_of r) ≡ cut marks) (L : List Library) (clear : code_number (code_of r) L marks ≡ 0) where
  pub copy-parameters : (p : ℕ) → p < entry_count (code_of r) → parameters_in (relocated S r) p ≡ parameters_in (code_of r) p
  unfolding misplaced
  copy-parameters zero h = refl
  copy-parameters (suc p) h =
      let code = code_of r in
      let copy = relocated S r in
      let at = entry_at code (suc p) in
      let cutted = code-starts r sound marks c in
      let s = cutted.entered (suc p) h in
      let (i, next, d) = cutted.decoded (suc p) at s in
      let found = (code-faultless r sound marks c L clear).in_place (suc p) at i next s d in
      let (par, is) = enters code p (shape_of i) found in
      let copied = copy-decodes S r sound placed marks c (suc p) at s i next d in
      let there : par ≡ operand enter_operands copy at =
      enter-parameters copy (region_end copy (suc p)) at next (renumbered S r i) copied
      (renumbered-shape (resolved S r) i ∙ ap (shape_by (resolved S r)) is) in
      let here : par ≡ operand enter_operands code at = enter-parameters code (region_end code (suc p)) at next i d is in
      rw (copy-entry S r sound placed (suc p) h, ne_eqb (suc p) 0 (λ z. omega arith)) (sym there ∙ here)
