-- What the code finds for 10 to 15 is the verdict over whole lists: the marks are the cut, the walks go alike, and the workspace shows
-- what was found.
use mathlib.Core.Bool.{true, cond}
use mathlib.Core.List.{List, ◌++◌}
use mathlib.Core.Option.{Option, none, some}
use mathlib.Core.Path.{◌≡◌, ◌∙◌, refl, sym, ap}
use Prim.Native.Nat.{ℕ, zero, suc, ◌+◌, ◌*◌, ◌<◌, ◌≤◌}
use native.Mathlib.Nat.{add-zero}
use native.Mathlib.Omega.{arith}
use lib.Dec.{eqb, eqb-suc-zero}
use lib.ListN.{length, get_or, drop, replicate, length-replicate, get_or-replicate}
use Rattle.words.specs.Bytes.{Bytes}
use Rattle.words.proofs.Slices.{none-behind}
use Rattle.entries.specs.Entries.{entries_sound}
use Rattle.entries.specs.Libraries.{Library}
use Rattle.layout.specs.Cut.{Marks, cut, cut_of}
use Rattle.faults.specs.Faults.{code_number}
use Rattle.layout.specs.Workspace.{marks_in, mark_all}
use Rattle.layout.proofs.Cutting.{Cutted, cutting-starts}
use Rattle.layout.proofs.Marking.{marking-cuts, marking-refuses, marking-keeps-length, marking-keeps-others}
use Rattle.stackmap.specs.Theorems.{WellCut}
use Rattle.stackmap.specs.Ways.{Subject}
use Rattle.stackmap.specs.Walk.{States, blank, walk_of}
use Rattle.verifier.specs.Check.{subject_of, refuted, walked, concluded, shown_from}
use Rattle.workspace.specs.Checking.{checking}
use Rattle.verifier.specs.Handing.{walked_top}
use Rattle.verifier.specs.Examine.{examined_of, zeroed, unmarked, after_walk, after_faults, after_marks, tested_top, settled, examined_top}
use Rattle.verifier.proofs.Coherence.{Shown}
use Rattle.verifier.proofs.Simulation.{Alike, walks-alike}
use Rattle.verifier.proofs.Showing.{unmarked-shows}

-- What a cut of sound entries gives to the walk.
pub sound : (code : List ℕ) (libraries : List Library) (results : List ℕ) (marks : Marks) → entries_sound code ≡ true → Bytes code
    → cut_of code ≡ cut marks
    → WellCut (subject_of code libraries results marks)
sound code libraries results marks e b c =
    let C : Cutted code marks = cutting-starts code marks e c in
    record { counted = C.some; entries = C.entered; procedures = C.counted; within = C.inside; bytes = b }

module _ (code : List ℕ) (libraries : List Library) (results w : List ℕ) (e : entries_sound code ≡ true) (b : Bytes code)
    (size : length w ≡ 4 * length code) where
  abbrev zeros : List ℕ
  zeros = zeroed w

  abbrev marked : List ℕ
  marked = (mark_all code zeros).workspace

  zeros-length : length zeros ≡ 4 * length code
  zeros-length = length-replicate (length w) 0 ∙ size

  zeros-at : (i : ℕ) → i < 4 * length code → get_or zeros i 0 ≡ 0
  zeros-at i h = get_or-replicate (length w) i 0 0 (omega arith)

  room : 4 * length code ≤ length zeros
  room = omega (arith, zeros-length)

  clean : (at : ℕ) → at < length code → get_or zeros (4 * at + 3) 0 ≡ 0
  clean at h = zeros-at (4 * at + 3) (omega arith)

  marked-length : length marked ≡ 4 * length code
  marked-length = marking-keeps-length code e zeros room clean ∙ zeros-length

  -- All of the workspace zeroed, which is just as long as it must be.
  cleared : (n : ℕ) (u : List ℕ) → length u ≡ 4 * length code → checking n (zeroed u) ≡ concluded (length code) w (refuted n)
  cleared n u l =
      let z : zeroed u ≡ replicate (4 * length code) 0 ++ drop (4 * length code) w =
      ap (λ (k : ℕ). replicate k 0) l ∙ sym (none-behind (replicate (4 * length code) 0) w (4 * length code) (omega arith)) in
      ap (checking n) z

  module _ (number : (mark_all code zeros).number ≡ 0) where
    is_cut : cut_of code ≡ cut (marks_in marked (length code))
    is_cut = marking-cuts code e zeros room clean number

    abbrev subject : Subject
    subject = subject_of code libraries results (marks_in marked (length code))

    alike : Alike subject marked (walked_top code libraries results marked)
    alike =
        walks-alike code libraries results (marks_in marked (length code)) marked
        (sound code libraries results (marks_in marked (length code)) e b is_cut) (omega (arith, marked-length)) blanks
        (λ at. refl)
      where
        same : (at k : ℕ) → at < length code → k < 3 → get_or marked (4 * at + k) 0 ≡ 0
        same at k h l = marking-keeps-others code e zeros room clean at k l ∙ zeros-at (4 * at + k) (omega arith)

        blanks : (at : ℕ) → at < length code → Shown marked at blank
        blanks at h =
            record {
              height = rw (add-zero (4 * at)) at (same at 0 h (omega arith));
              origin = same at 1 h (omega arith);
              waits = same at 2 h (omega arith);
            }

    walks : (o : Option States) → walk_of subject ≡ o
        → settled code (after_walk (walked_top code libraries results marked)) ≡ concluded (length code) w (walked o)
    walks none f =
        rw (alike.refused f) (cleared 15 (walked_top code libraries results marked).workspace (alike.sized ∙ marked-length))
    walks (some σ) f =
        let A = alike.accepted σ f in
        let left = (walked_top code libraries results marked).workspace in
        let z : unmarked 0 (length code) left ≡ shown_from σ 0 (length code) ++ drop (4 * length code) w =
        unmarked-shows σ left (length code) (alike.sized ∙ marked-length) A.shown A.cleared
        ∙ sym (none-behind (shown_from σ 0 (length code)) w (4 * length code) (omega arith)) in
        rw A.accepts (ap (checking 0) z)

    faults : (n : ℕ) → code_number code libraries (marks_in marked (length code)) ≡ n
        → settled code (after_faults code libraries results marked n)
        ≡ concluded (length code) w (cond (eqb n 0) (walked (walk_of subject)) (refuted n))
    faults zero f = walks (walk_of subject) refl
    faults (suc n) f = rw (eqb-suc-zero n, eqb-suc-zero n) (cleared (suc n) marked marked-length)

  marks : (n : ℕ) → (mark_all code zeros).number ≡ n
      → settled code (after_marks code libraries results marked n) ≡ concluded (length code) w (examined_of code libraries results)
  unfolding examined_of
  marks zero f = rw (is_cut f) (faults f (code_number code libraries (marks_in marked (length code))) refl)
  marks (suc n) f =
      rw (marking-refuses code e zeros room clean n f, eqb-suc-zero n, eqb-suc-zero n)
      (cleared (suc n) marked marked-length)

  pub examined-concludes : examined_top code libraries results w ≡ concluded (length code) w (examined_of code libraries results)
  unfolding examined_top tested_top
  examined-concludes = marks (mark_all code zeros).number refl
