-- What the check accepts, as 01 words it. The letter: "The check accepts exactly the records that meet the written rules".
use Rattle.std.specs.Prelude.{true, List, ◌⊎◌, ◌≡◌, ℕ, ◌≤◌, ◌<◌, ◌+◌, ◌*◌, length, get_or}
use Rattle.words.specs.Bytes.{Bytes}
use Rattle.header.specs.Header.{code_of}
use Rattle.entries.specs.Entries.{entry_count}
use Rattle.module_set.specs.Members.{Members, member_at}
use Rattle.relocation.specs.Relocation.{set_number}
use Rattle.layout.specs.Cut.{Marks, cut, cut_of}
use Rattle.faults.specs.Faults.{code_number}
use Rattle.stackmap.specs.Slots.{Slot, top_origin}
use Rattle.stackmap.specs.Ways.{Subject}
use Rattle.stackmap.specs.StackMap.{Map, IsMap, Reached}
use Rattle.verifier.specs.Check.{lists_sound, libraries_of, subject_of, set_check}

abbrev pub code_at : Members → ℕ → List ℕ
code_at S k = code_of (member_at S k).bytes

-- The rules up to 14: the set is sound, the results lists fit, and every code is cut into instructions that are in order.
pub record Ruled (S : Members) : Type 0 where
  pub set_sound : set_number S ≡ 0
  pub lists_are_sound : lists_sound S ≡ true
  pub marks : ℕ → Marks
  pub are_cut : (k : ℕ) → k < length S → cut_of (code_at S k) ≡ cut (marks k)
  pub in_order : (k : ℕ) → k < length S → code_number (code_at S k) (libraries_of S (member_at S k).bytes) (marks k) ≡ 0

-- Module k under check.
abbrev pub subject : (S : Members) → Ruled S → ℕ → Subject
subject S R k = subject_of (code_at S k) (libraries_of S (member_at S k).bytes) (member_at S k).results (R.marks k)

-- Every region has a map.
abbrev pub Mapped : (S : Members) → Ruled S → ℕ → Type 0
Mapped S R own = (p : ℕ) → p < entry_count (code_at S own) → (π : Map) × IsMap (subject S R own) p π

-- The module is one of the set's, and its workspace is long enough.
abbrev pub Room : Members → ℕ → List ℕ → Type 0
Room S own w = (own < length S) × (4 * length (code_at S own) ≤ length w)

-- Some region has none.
abbrev pub Unmapped : (S : Members) → Ruled S → ℕ → Type 0
Unmapped S R own = (p : ℕ) × (p < entry_count (code_at S own)) × ((π : Map) → IsMap (subject S R own) p π → ⊥)

-- There is room, the rules up to 14 are met, and a property holds.
abbrev pub Met : ((S : Members) → Ruled S → ℕ → Type 0) → (S : Members) (own : ℕ) (w : List ℕ) → Type 0
Met Property S own w = Room S own w × (R : Ruled S) × Property S R own

-- Lists of bytes.
abbrev pub AllBytes : Members → Type 0
AllBytes S = (k : ℕ) → Bytes (member_at S k).bytes

-- The check answers a number exactly where that is so.
abbrev pub Exactly : ℕ → ((S : Members) → Ruled S → ℕ → Type 0) → Type 0
Exactly number Property =
    (S : Members) (own : ℕ) (w : List ℕ) → AllBytes S
    → ((set_check S own w).number ≡ number → Met Property S own w)
    × (Met Property S own w → (set_check S own w).number ≡ number)

-- The letter: "The check accepts exactly the records that meet the written rules"; 02, K1: "Demands 2 and 3 now speak of a set of
-- modules".
abbrev pub AcceptsExactly : Type 0
AcceptsExactly = Exactly 0 Mapped

-- 01: 15 is given exactly when "some region has no picture", and no lower number is.
abbrev pub RefusesExactly : Type 0
RefusesExactly = Exactly 15 Unmapped

-- After acceptance the workspace shows the map of just what is reached: height plus 1 and the topmost label where there is a
-- list, and 0 and 0 at every other offset.
pub record Shows (w : List ℕ) (at : ℕ) (l : List Slot) : Type 0 where
  pub height : get_or w (4 * at) 0 ≡ length l + 1
  pub origin : get_or w (4 * at + 1) 0 ≡ top_origin l

abbrev pub ShowsReached : Type 0
ShowsReached =
    (S : Members) (own : ℕ) (w : List ℕ) → AllBytes S → (set_check S own w).number ≡ 0 → (R : Ruled S) (p : ℕ)
    → p < entry_count (code_at S own) → (at : ℕ) (l : List Slot) → Reached (subject S R own) p at l
    → Shows (set_check S own w).workspace at l

abbrev pub ShowsNoMore : Type 0
ShowsNoMore =
    (S : Members) (own : ℕ) (w : List ℕ) → AllBytes S → (set_check S own w).number ≡ 0 → (R : Ruled S) (at : ℕ)
    → at < length (code_at S own)
    → ((p : ℕ) × (l : List Slot) × (p < entry_count (code_at S own)) × Reached (subject S R own) p at l)
    ⊎ ((get_or (set_check S own w).workspace (4 * at) 0 ≡ 0) × (get_or (set_check S own w).workspace (4 * at + 1) 0 ≡ 0))
