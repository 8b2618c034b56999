-- What a cut gives, the entries being sound: every mark is at an instruction of its procedure's region, made so when it was written;
-- and every entry is marked, since later regions mark only offsets from their own entry on.
use mathlib.Core.Bool.{Bool, true, false, cond}
use mathlib.Core.Path.{◌≡◌, refl, ◌∙◌}
use mathlib.Core.List.{List}
use Prim.Native.Nat.{ℕ, zero, suc, ◌+◌, ◌-◌, ◌<◌, ◌≤◌}
use native.Mathlib.Omega.{arith}
use borrow.Author.Tests.{ltb-true, ltb-false, eqb-true, eq-eqb, ne_eqb}
use lib.Dec.{ltb}
use lib.ListN.{length}
use Rattle.entries.specs.Entries.{entry_at, entry_count, entries_sound, region_end}
use Rattle.opcode.specs.Decode.{decode_at}
use Rattle.opcode.specs.Decode.{Decoded}
use Rattle.std.specs.Prelude.{Err, Ok}
use Rattle.opcode.specs.declared.instruction.Instruction.{Instruction}
use Rattle.layout.specs.Cut.{Marks, updated, Cut, bad, cut, cut_at, cut_from, then_cut, cut_procedures, cut_of, starts_in}
use Rattle.opcode.proofs.Found.{ends}
use Rattle.layout.proofs.Updates.{Change, changed, spared, change, updated-here}
use Rattle.words.proofs.Left.{at_or_after}
use Rattle.entries.proofs.Ordered.{first_of, Rises, rises-first, rises-rest, Ordered, ordered}

-- An instruction of procedure p stands at an offset of its region.
pub record Placed (code : List ℕ) (p at : ℕ) : Type 0 where
  pub counted : p < entry_count code
  pub below : at < region_end code p
  pub decoded : (i : Instruction) × (next : ℕ) × (decode_at code (region_end code p) at ≡ Ok (i, next))

pub same-marks : {m m' : Marks} → cut m ≡ cut m' → m ≡ m'
same-marks e = cc

not-bad : {n : ℕ} {m : Marks} → bad n ≡ cut m → ⊥
not-bad e = let z : ◌≡◌ {A = ℕ} 0 1 = cc in omega arith

thens : (go : Marks → Cut) (c : Cut) {m' : Marks} → then_cut go c ≡ cut m' → (m : Marks) × (c ≡ cut m) × (go m ≡ cut m')
thens go (bad n) e = absurd (not-bad e)
thens go (cut m) e = (m, refl, e)

module _ (code : List ℕ) where
  abbrev AllPlaced : Marks → Type 0
  AllPlaced marks = (q a : ℕ) → starts_in marks q a ≡ true → Placed code q a

  -- One mark more.
  placed-more : (marks : Marks) (p at : ℕ) → Placed code p at → AllPlaced marks → AllPlaced (updated marks at (p + 1))
  placed-more marks p at new old q a s = by (change marks at (p + 1) a)
    where
      by : Change marks at (p + 1) a → Placed code q a
      by (changed e f) =
          let same : p ≡ q = omega (arith, eqb-true (p + 1) (q + 1) (rw f at s)) in
          rw (e, ← same) new
      by (spared e f) = old q a (rw f at s)

  module _ (p : ℕ) (h : p < entry_count code) where
    -- What cutting from an offset on makes of the marks.
    record Grown (n at : ℕ) (marks marks' : Marks) : Type 0 where
      kept : (a : ℕ) → a < at → marks' a ≡ marks a
      placed : AllPlaced marks → AllPlaced marks'
      first : 0 < n → at < region_end code p → marks' at ≡ p + 1

    grown-none : (n at : ℕ) (marks marks' : Marks) → (0 < n → region_end code p ≤ at) → marks ≡ marks' → Grown n at marks marks'
    grown-none n at marks marks' over e = record {
      kept = λ a l. rw e;
      placed = λ s. rw e at s;
      first = λ some l. absurd (omega (arith, over some));
    }

    grown-one :
        (n at next : ℕ) (i : Instruction) (marks marks' : Marks) →
        at < region_end code p → decode_at code (region_end code p) at ≡ Ok (i, next) →
        Grown n next (updated marks at (p + 1)) marks' → Grown (suc n) at marks marks'
    grown-one n at next i marks marks' l d g = record {
      kept = λ a f. g.kept a (omega (arith, ends code (region_end code p) at d)) ∙ rw (ne_eqb a at (λ e. omega arith));
      placed = λ s. g.placed (placed-more marks p at (record { counted = h; below = l; decoded = (i, next, d) }) s);
      first = λ some f. g.kept at (ends code (region_end code p) at d).0 ∙ updated-here marks at (p + 1);
    }

    grown-step :
        (n at : ℕ) (marks marks' : Marks) (b : Bool) (d : Decoded) →
        ltb at (region_end code p) ≡ b → decode_at code (region_end code p) at ≡ d →
        ((next : ℕ) (m : Marks) → cut_from code p n next m ≡ cut marks' → Grown n next m marks') →
        cond b (cut_at (cut_from code p n) p at marks d) (cut marks) ≡ cut marks' → Grown (suc n) at marks marks'
    grown-step n at marks marks' false d b' d' rest e =
        grown-none (suc n) at marks marks' (λ some. ltb-false at (region_end code p) b') (same-marks e)
    grown-step n at marks marks' true (Err x) b' d' rest e = absurd (not-bad e)
    grown-step n at marks marks' true (Ok (i, next)) b' d' rest e =
        grown-one n at next i marks marks' (ltb-true at (region_end code p) b') d' (rest next (updated marks at (p + 1)) e)

    grown : (n at : ℕ) (marks marks' : Marks) → cut_from code p n at marks ≡ cut marks' → Grown n at marks marks'
    grown zero at marks marks' e = grown-none 0 at marks marks' (λ some. absurd (omega arith)) (same-marks e)
    grown (suc n) at marks marks' e =
        grown-step n at marks marks' (ltb at (region_end code p)) (decode_at code (region_end code p) at) refl refl
        (λ next m. grown n next m marks') e

  module _ (o : Ordered code) where
    -- What cutting n procedures from p on and procedure 0 makes of the marks.
    record Cuts (p n : ℕ) (marks marks' : Marks) : Type 0 where
      kept : (a : ℕ) → a < first_of code p n → marks' a ≡ marks a
      placed : AllPlaced marks → AllPlaced marks'
      last : marks' (entry_at code 0) ≡ 1
      entries : (q : ℕ) → p ≤ q → q < entry_count code → marks' (entry_at code q) ≡ q + 1

    -- Every region has a byte, so its entry is marked.
    grown-entry :
        (p : ℕ) (h : p < entry_count code) (marks marks' : Marks) →
        cut_from code p (length code) (entry_at code p) marks ≡ cut marks' → marks' (entry_at code p) ≡ p + 1
    grown-entry p h marks marks' e =
        let l = o.starts p h in
        (grown p h (length code) (entry_at code p) marks marks' e).first (omega (arith, o.ends p)) l

    cuts-last :
        (p least : ℕ) (marks marks' : Marks) → Rises code p 0 least →
        cut_from code 0 (length code) (entry_at code 0) marks ≡ cut marks' → Cuts p 0 marks marks'
    cuts-last p least marks marks' r e =
        let g = grown 0 o.some (length code) (entry_at code 0) marks marks' e in
        record {
          kept = g.kept;
          placed = g.placed;
          last = grown-entry 0 o.some marks marks' e;
          entries = λ q l h. absurd (omega (arith, r.to));
        }

    cuts-more :
        (p n least : ℕ) (marks m marks' : Marks) → Rises code p (suc n) least →
        cut_from code p (length code) (entry_at code p) marks ≡ cut m → Cuts (p + 1) n m marks' → Cuts p (suc n) marks marks'
    cuts-more p n least marks m marks' r e c =
        let h : p < entry_count code = omega (arith, r.to) in
        let g = grown p h (length code) (entry_at code p) marks m e in
        let f = rises-first code (p + 1) n (entry_at code p + 1) (rises-rest code p n least r) in
        record {
          kept = λ a l. c.kept a (omega (arith, f.0)) ∙ g.kept a l;
          placed = λ s. c.placed (g.placed s);
          last = c.last;
          entries = λ q l k.
              at_or_after (λ (j : ℕ). marks' (entry_at code j) ≡ j + 1) p q l
              (c.kept (entry_at code p) (omega (arith, f.0)) ∙ grown-entry p h marks m e)
              (λ (more : p < q). c.entries q (omega arith) k);
        }

    cuts :
        (n p least : ℕ) (marks marks' : Marks) →
        Rises code p n least → cut_procedures code p n marks ≡ cut marks' → Cuts p n marks marks'
    cuts zero p least marks marks' r e = cuts-last p least marks marks' r e
    cuts (suc n) p least marks marks' r e =
        let t = thens (cut_procedures code (p + 1) n) (cut_from code p (length code) (entry_at code p) marks) e in
        cuts-more p n least marks t.0 marks' r t.1
        (cuts n (p + 1) (entry_at code p + 1) t.0 marks' (rises-rest code p n least r) t.2)

-- What cutting gives.
pub record Cutted (code : List ℕ) (marks : Marks) : Type 0 where
  pub some : 1 ≤ entry_count code
  pub entered : (p : ℕ) → p < entry_count code → starts_in marks p (entry_at code p) ≡ true
  pub counted : (p at : ℕ) → starts_in marks p at ≡ true → p < entry_count code
  pub below : (p at : ℕ) → starts_in marks p at ≡ true → at < region_end code p
  pub inside : (p at : ℕ) → starts_in marks p at ≡ true → at < length code
  pub decoded :
      (p at : ℕ) → starts_in marks p at ≡ true →
      (i : Instruction) × (next : ℕ) × (decode_at code (region_end code p) at ≡ Ok (i, next))
  pub ends : (p : ℕ) → p < entry_count code → region_end code p ≤ length code

module _ (code : List ℕ) (marks : Marks) (e : entries_sound code ≡ true) (c : cut_of code ≡ cut marks) where
  all-cut : Cuts code (ordered code e) 1 (entry_count code - 1) (λ at. 0) marks
  unfolding cut_of
  all-cut = cuts code (ordered code e) (entry_count code - 1) 1 0 (λ at. 0) marks (ordered code e).rises c

  none-placed : AllPlaced code (λ at. 0)
  none-placed q a s = absurd (omega (arith, eqb-true 0 (q + 1) s))

  each-entry : (p : ℕ) → p < entry_count code → marks (entry_at code p) ≡ p + 1
  each-entry zero h = all-cut.last
  each-entry (suc p) h = all-cut.entries (suc p) (omega arith) h

  pub cutting-starts : Cutted code marks
  cutting-starts =
      let o = ordered code e in
      let placed : AllPlaced code marks = all-cut.placed none-placed in
      record {
        some = o.some;
        entered = λ p h. eq-eqb (marks (entry_at code p)) (p + 1) (each-entry p h);
        counted = λ p at s. (placed p at s).counted;
        below = λ p at s. (placed p at s).below;
        inside = λ p at s. omega (arith, (placed p at s).below, o.ends p);
        decoded = λ p at s. (placed p at s).decoded;
        ends = λ p h. o.ends p;
      }
