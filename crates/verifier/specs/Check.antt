-- The check. 01: "check [makes tests] 1 to 15"; "Refusals 1 to 9 leave the workspace untouched, 10 to 15 zero four halfwords
-- per code byte. Acceptance writes per code byte: height plus 1 (0 if unpictured), 1 plus the offset of the topmost label's
-- maker (0 if none), 0, 0. Workspace past that is untouched." 17 and 18 stand after 7, and leave it untouched too.
use Rattle.std.specs.Prelude.{Bool, cond, not, ◌&&◌, ◌||◌, List, [], ◌∷◌, ◌++◌, ℕ, zero, suc, ◌+◌, ◌*◌, eqb, leb, ltb, length, get_or, drop, replicate}
use Rattle.std.proofs.Math.Option.{Option, none, some}
use Rattle.words.specs.Order.{every}
use Rattle.words.specs.Refusal.{Test, ◌when◌}
use Rattle.header.specs.Header.{code_of}
use Rattle.entries.specs.Entries.{entry_count}
use Rattle.entries.specs.Libraries.{Library}
use Rattle.module_set.specs.Members.{Member, Members, member_at, single, imports_of, number_of}
use Rattle.module_set.specs.Linked.{every_member, lowest_of}
use Rattle.relocation.specs.Relocation.{after_set}
use Rattle.workspace.specs.Checking.{Checking, checking}
use Rattle.layout.specs.Cut.{Marks, Cut, bad, cut, cut_of}
use Rattle.faults.specs.Faults.{code_number}
use Rattle.stackmap.specs.Slots.{Slot, top_origin}
use Rattle.stackmap.specs.Ways.{Subject}
use Rattle.stackmap.specs.Walk.{State, States, blank, waiting, done, walk_of}

abbrev pub all_at_most : ℕ → List ℕ → Bool
all_at_most most xs = every (λ x. leb x most) xs

-- 9: "results list of wrong length or content". "one byte 0 to 2 per procedure from 0 up, ..; procedure 0 has 0".
unfoldable pub results_sound : List ℕ → List ℕ → Bool
results_sound code results =
    eqb (length results) (entry_count code) && (eqb (get_or results 0 0) 0 && all_at_most 2 results)

-- What a module's check sees of another. 02, K1: "with a callee's entry (14), parameters and results taken from its own module".
abbrev pub library_of : Member → Library
library_of M = record { code = code_of M.bytes; results = M.results }

-- The libraries of an import list, and those of a module.
abbrev pub libraries_over : Members → List ℕ → List Library
libraries_over S [] = []
libraries_over S (sid ∷ sids) = library_of (member_at S (number_of S sid)) ∷ libraries_over S sids

unfoldable pub libraries_of : Members → List ℕ → List Library
libraries_of S r = libraries_over S (imports_of r)

-- 8 and 9, after the set's numbers, for a workspace of so many halfwords. 8: "workspace under four halfwords per code byte";
-- or the module is none of the set's. 02, K1: "the check's 8 and 15 look at its own alone".
abbrev pub lacks_room : Members → (own room : ℕ) → Bool
lacks_room S own room = leb (length S) own || ltb room (4 * length (code_of (member_at S own).bytes))

abbrev pub lists_sound : Members → Bool
lists_sound S = every_member (λ M. results_sound (code_of M.bytes) M.results) S

abbrev pub list_tests : Members → (own room : ℕ) → List Test
list_tests S own room = 8 when lacks_room S own room ∷ 9 when not (lists_sound S) ∷ []

unfoldable pub list_number : Members → (own room : ℕ) → ℕ
list_number S own room = after_set S (list_tests S own room)

abbrev pub subject_of : List ℕ → List Library → List ℕ → Marks → Subject
subject_of code libraries results marks = record { code = code; libraries = libraries; results = results; marks = marks }

-- A number from 10 on, or the lists that the walk found.
pub data Verdict : Type 0 where
  refuted : ℕ → Verdict
  accepted : States → Verdict

-- 15: "some region has no picture", which is where the walk breaks (specs/Exact).
abbrev pub walked : Option States → Verdict
walked none = refuted 15
walked (some σ) = accepted σ

-- 10 or 11 of a module, and the lowest of 12 to 14; 0 where there is none.
abbrev pub bad_number : Cut → ℕ
bad_number (bad n) = n
bad_number (cut marks) = 0

abbrev pub fault_number : List ℕ → List Library → Cut → ℕ
fault_number code libraries (bad n) = 0
fault_number code libraries (cut marks) = code_number code libraries marks

-- The first number that a member gives.
abbrev pub first_of : (Member → ℕ) → Members → ℕ
first_of number [] = 0
first_of number (M ∷ S) = cond (eqb (number M) 0) (first_of number S) (number M)

-- 02, K1: "10 or 11 by the first with a bad instruction".
unfoldable pub cut_number : Members → ℕ
cut_number S = first_of (λ M. bad_number (cut_of (code_of M.bytes))) S

-- The lowest of 12 to 14 of a module.
abbrev pub fault_in : Members → Member → ℕ
fault_in S M = fault_number (code_of M.bytes) (libraries_of S M.bytes) (cut_of (code_of M.bytes))

unfoldable pub codes_number : Members → ℕ
codes_number S = cond (eqb (cut_number S) 0) (lowest_of (fault_in S) S) (cut_number S)

-- The own module's code, where no module has a number up to 14.
abbrev pub judged : List ℕ → List Library → List ℕ → Cut → Verdict
judged code libraries results (bad n) = refuted n
judged code libraries results (cut marks) = walked (walk_of (subject_of code libraries results marks))

unfoldable pub verdict_of : Members → (own : ℕ) → Verdict
verdict_of S own =
    let M = member_at S own in
    cond (eqb (codes_number S) 0) (judged (code_of M.bytes) (libraries_of S M.bytes) M.results (cut_of (code_of M.bytes)))
    (refuted (codes_number S))

-- Four halfwords for a code byte.
abbrev pub shown_slots : List Slot → List ℕ
shown_slots l = (length l + 1) ∷ top_origin l ∷ 0 ∷ 0 ∷ []

abbrev pub shown_state : State → List ℕ
shown_state blank = 0 ∷ 0 ∷ 0 ∷ 0 ∷ []
shown_state (waiting l) = shown_slots l
shown_state (done l) = shown_slots l

abbrev pub shown_from : States → ℕ → ℕ → List ℕ
shown_from σ at zero = []
shown_from σ at (suc n) = shown_state (σ at) ++ shown_from σ (at + 1) n

abbrev pub concluded : ℕ → List ℕ → Verdict → Checking
concluded size w (refuted n) = checking n (replicate (4 * size) 0 ++ drop (4 * size) w)
concluded size w (accepted σ) = checking 0 (shown_from σ 0 size ++ drop (4 * size) w)

-- The check of one module of a set.
unfoldable pub set_check : Members → (own : ℕ) (w : List ℕ) → Checking
set_check S own w =
    cond (eqb (list_number S own (length w)) 0) (concluded (length (code_of (member_at S own).bytes)) w (verdict_of S own))
    (checking (list_number S own (length w)) w)

-- A record by itself: the set of one.
abbrev pub check_of : (r results w : List ℕ) → Checking
check_of r results w = set_check (single r results) 0 w
