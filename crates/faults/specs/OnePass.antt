-- How the code finds `code_number` in one pass over the offsets: the number of each instruction. The contracts of
-- the functions are equations with these definitions; proofs/Lowest joins them with `code_number`.
use Rattle.std.specs.Prelude.{Err, Ok, List, ℕ, length}
use Rattle.words.specs.Refusal.{refusal}
use Rattle.entries.specs.Entries.{region_end}
use Rattle.entries.specs.Libraries.{Library}
use Rattle.opcode.specs.Decode.{Decoded, decode_at}
use Rattle.shape.specs.Shape.{shape_of}
use Rattle.shape.specs.declared.Shape.{Shape}
use Rattle.layout.specs.Cut.{Marks}
use Rattle.layout.specs.Workspace.{marks_in}
use Rattle.faults.specs.declared.Place.{Place}
use Rattle.faults.specs.Faults.{faults_by}

-- The marks that the workspace holds of a place's code.
abbrev pub marks_of : Place → Marks
marks_of place = marks_in place.w.now (length place.code.now)

-- The lowest of 12 to 14 that one instruction gives.
unfoldable pub fault_of : List ℕ → List Library → Marks → ℕ → ℕ → ℕ → Shape → ℕ
fault_of code libraries marks p at next s =
    refusal (faults_by code libraries marks (λ test. test p at next s))

abbrev pub fault_in : List ℕ → List Library → Marks → ℕ → ℕ → Decoded → ℕ
fault_in code libraries marks p at (Err e) = 0
fault_in code libraries marks p at (Ok (i, next)) = fault_of code libraries marks p at next (shape_of i)

unfoldable pub fault_at : List ℕ → List Library → Marks → ℕ → ℕ → ℕ
fault_at code libraries marks p at = fault_in code libraries marks p at (decode_at code (region_end code p) at)
