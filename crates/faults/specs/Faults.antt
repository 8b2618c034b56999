-- The numbers 12 to 14. 01: "12 to 14 look at every instruction cut, reached or not".
use Rattle.std.specs.Prelude.{Bool, Err, Ok, false, not, ◌&&◌, ◌||◌, List, [], ◌∷◌, ℕ, zero, suc, ◌+◌, eqb, length}
use Rattle.words.specs.Order.{every}
use Rattle.words.specs.Refusal.{Test, refusal, ◌when◌}
use Rattle.entries.specs.Entries.{entry_at, no_callee, region_end}
use Rattle.entries.specs.Libraries.{Library, library_in}
use Rattle.opcode.specs.Decode.{Decoded, decode_at}
use Rattle.shape.specs.Shape.{shape_of}
use Rattle.shape.specs.declared.Shape.{Shape}
use Rattle.shape.specs.Linkage.{Linkage, inside, calling, calling_external, entering, returning, linkage_of}
use Rattle.layout.specs.Cut.{Marks, starts_in}
use Rattle.successors.specs.Successors.{targets}

abbrev pub all_start : Marks → ℕ → List ℕ → Bool
all_start marks p places = every (starts_in marks p) places

-- 12: "a successor or switch label is no start in its region".
unfoldable pub strays : List ℕ → Marks → ℕ → ℕ → ℕ → Shape → Bool
strays code marks p at next s = not (all_start marks p (targets code at next s))

-- 13: "procedures 1 and up do not begin with ENTER, ENTER elsewhere, or procedure 0's has parameters".
abbrev pub bare : List ℕ → ℕ → ℕ → Bool
bare code p at = eqb at (entry_at code p) && not (eqb p 0)

abbrev pub misplaced_by : List ℕ → ℕ → ℕ → Linkage → Bool
misplaced_by code p at inside = bare code p at
misplaced_by code p at (calling c) = bare code p at
misplaced_by code p at (calling_external l c) = bare code p at
misplaced_by code p at (entering par) = not (eqb at (entry_at code p)) || (eqb p 0 && not (eqb par 0))
misplaced_by code p at returning = bare code p at

unfoldable pub misplaced : List ℕ → ℕ → ℕ → ℕ → Shape → Bool
misplaced code p at next s = misplaced_by code p at (linkage_of s)

-- 14: "callee 0 or not in the entries". 02, K1: "a callee's entry (14), parameters and results taken from its own module".
abbrev pub uncallable_by : List ℕ → List Library → Linkage → Bool
uncallable_by code libraries inside = false
uncallable_by code libraries (calling c) = no_callee code c
uncallable_by code libraries (calling_external l c) = no_callee (library_in libraries l).code c
uncallable_by code libraries (entering par) = false
uncallable_by code libraries returning = false

unfoldable pub uncallable : List ℕ → List Library → ℕ → ℕ → ℕ → Shape → Bool
uncallable code libraries p at next s = uncallable_by code libraries (linkage_of s)

-- A test of an instruction by its procedure, its offset, the next one and its shape. Only starts are looked at.
abbrev pub FaultTest : Type 0
FaultTest = ℕ → ℕ → ℕ → Shape → Bool

abbrev pub test_in : FaultTest → ℕ → ℕ → Decoded → Bool
test_in test p at (Err e) = false
test_in test p at (Ok (i, next)) = test p at next (shape_of i)

abbrev pub test_at : List ℕ → ℕ → FaultTest → ℕ → Bool
test_at code zero test at = false
test_at code (suc p) test at = test_in test p at (decode_at code (region_end code p) at)

abbrev pub any_from : (ℕ → Bool) → ℕ → ℕ → Bool
any_from f at zero = false
any_from f at (suc n) = f at || any_from f (at + 1) n

unfoldable pub anywhere : List ℕ → Marks → FaultTest → Bool
anywhere code marks test = any_from (λ at. test_at code (marks at) test at) 0 (length code)

-- The three tests, by what makes a test.
abbrev pub faults_by : List ℕ → List Library → Marks → (FaultTest → Bool) → List Test
faults_by code libraries marks made =
    12 when made (strays code marks) ∷ 13 when made (misplaced code) ∷ 14 when made (uncallable code libraries) ∷ []

abbrev pub fault_tests : List ℕ → List Library → Marks → List Test
fault_tests code libraries marks = faults_by code libraries marks (anywhere code marks)

unfoldable pub code_number : List ℕ → List Library → Marks → ℕ
code_number code libraries marks = refusal (fault_tests code libraries marks)
