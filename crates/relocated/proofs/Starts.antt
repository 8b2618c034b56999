-- A start of a cut is an offset that cutting its region visits: its mark was written there. By induction on the cut.
use mathlib.Core.Bool.{Bool, true, false, cond, ◌&&◌}
use mathlib.Core.List.{List}
use mathlib.Core.Path.{◌≡◌, refl}
use Prim.Native.Nat.{ℕ, zero, suc, ◌+◌, ◌-◌, ◌<◌, ◌≤◌}
use native.Mathlib.Omega.{arith}
use borrow.Author.Tests.{eqb-true, ltb-true}
use lib.Dec.{eqb, ltb}
use lib.ListN.{length}
use Rattle.entries.specs.Entries.{entry_at, entry_count, entries_sound, region_end}
use Rattle.opcode.specs.Decode.{decode_at}
use Rattle.opcode.specs.Decode.{Decoded}
use Rattle.opcode.specs.declared.DecodeError.TheVariants.{Unserved, Past}
use Rattle.std.specs.Prelude.{Err, Ok}
use Rattle.opcode.specs.declared.instruction.Instruction.{Instruction}
use Rattle.layout.specs.Cut.{Marks, updated, Cut, bad, cut, cut_at, cut_from, then_cut, cut_procedures, cut_of, starts_in}
use Rattle.layout.proofs.Updates.{Change, changed, spared, change}
use Rattle.layout.proofs.Cutting.{same-marks, cutting-starts}
use Rattle.module_set.specs.Linked.{has}
use Rattle.relocation.specs.Places.{is_external, library_places}
use Rattle.relocated.proofs.Places.{Visits, visits-first, visits-later}
use Rattle.relocated.proofs.Regions.{visited-places}

pub not-bad : {n : ℕ} {m : Marks} → bad n ≡ cut m → ⊥
not-bad e = let z : ◌≡◌ {A = ℕ} 0 1 = cc in omega arith

pub thens : (go : Marks → Cut) (c : Cut) {m' : Marks} → then_cut go c ≡ cut m' → (m : Marks) × (c ≡ cut m) × (go m ≡ cut m')
thens go (bad n) e = absurd (not-bad e)
thens go (cut m) e = (m, refl, e)

module _ (code : List ℕ) where
  -- A mark was there before, or its offset is visited.
  data Marked (p n from : ℕ) (marks : Marks) (q at : ℕ) : Type 0 where
    old : starts_in marks q at ≡ true → Marked p n from marks q at
    new : q ≡ p → Visits code p n from at → Marked p n from marks q at

  marked_step :
      (p n from : ℕ) (marks marks' : Marks) (q at : ℕ) (b : Bool) (d : Decoded) →
      ltb from (region_end code p) ≡ b → decode_at code (region_end code p) from ≡ d →
      ((next : ℕ) (m : Marks) → cut_from code p n next m ≡ cut marks' → Marked p n next m q at) →
      cond b (cut_at (cut_from code p n) p from marks d) (cut marks) ≡ cut marks' → starts_in marks' q at ≡ true →
      Marked p (suc n) from marks q at
  marked_step p n from marks marks' q at false d b' d' rest e s = old (rw (same-marks e) s)
  marked_step p n from marks marks' q at true (Err Unserved) b' d' rest e s = absurd (not-bad e)
  marked_step p n from marks marks' q at true (Err Past) b' d' rest e s = absurd (not-bad e)
  marked_step p n from marks marks' q at true (Ok (i, next)) b' d' rest e s =
      by (rest next (updated marks from (p + 1)) e) (change marks from (p + 1) at)
    where
      by : Marked p n next (updated marks from (p + 1)) q at → Change marks from (p + 1) at → Marked p (suc n) from marks q at
      by (new same v) c = new same (visits-later d' v)
      by (old m) (changed here f) =
          let same : q ≡ p = omega (arith, eqb-true (p + 1) (q + 1) (rw f at m)) in
          new same (rw here (visits-first (ltb-true from (region_end code p) b')))
      by (old m) (spared other f) = old (rw f at m)

  marked : (p n from : ℕ) (marks marks' : Marks) (q at : ℕ) → cut_from code p n from marks ≡ cut marks'
      → starts_in marks' q at ≡ true → Marked p n from marks q at
  marked p zero from marks marks' q at e s = old (rw (same-marks e) s)
  marked p (suc n) from marks marks' q at e s =
      marked_step p n from marks marks' q at (ltb from (region_end code p)) (decode_at code (region_end code p) from) refl refl
      (λ next m f. marked p n next m marks' q at f s) e s

  -- What all marks are, where those before were.
  abbrev Visited : ℕ → ℕ → Type 0
  Visited q at = Visits code q (length code) (entry_at code q) at

  region-visits : (p : ℕ) (marks marks' : Marks) (q at : ℕ) → cut_from code p (length code) (entry_at code p) marks ≡ cut marks'
      → (starts_in marks q at ≡ true → Visited q at) → starts_in marks' q at ≡ true → Visited q at
  region-visits p marks marks' q at e before s = by (marked p (length code) (entry_at code p) marks marks' q at e s)
    where
      by : Marked p (length code) (entry_at code p) marks q at → Visited q at
      by (old m) = before m
      by (new same v) = rw same v

  all-visits : (n p : ℕ) (marks marks' : Marks) (q at : ℕ) → cut_procedures code p n marks ≡ cut marks'
      → (starts_in marks q at ≡ true → Visited q at) → starts_in marks' q at ≡ true → Visited q at
  all-visits zero p marks marks' q at e before s = region-visits 0 marks marks' q at e before s
  all-visits (suc n) p marks marks' q at e before s =
      let t = thens (cut_procedures code (p + 1) n) (cut_from code p (length code) (entry_at code p) marks) e in
      all-visits n (p + 1) t.0 marks' q at t.2 (region-visits p marks t.0 q at t.1 before) s

  module _ (marks : Marks) (c : cut_of code ≡ cut marks) where
    pub start-visits : (p at : ℕ) → starts_in marks p at ≡ true → Visits code p (length code) (entry_at code p) at
    unfolding cut_of
    start-visits p at s =
        all-visits (entry_count code - 1) 1 (λ x. 0) marks p at c (λ z. absurd (omega (arith, eqb-true 0 (p + 1) z))) s

    -- Within an instruction that starts there the one place is the library byte of an external one.
    pub start-places : entries_sound code ≡ true → (p at : ℕ) (i : Instruction) (next x : ℕ) → starts_in marks p at ≡ true
        → decode_at code (region_end code p) at ≡ Ok (i, next) → at ≤ x → x < next
        → has (library_places code) x ≡ (is_external i && eqb x (at + 1))
    start-places e p at i next x s d l u =
        visited-places code e p at next x i ((cutting-starts code marks e c).counted p at s) (start-visits p at s) d l u
