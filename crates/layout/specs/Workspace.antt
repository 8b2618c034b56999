-- How the code holds its marks in the workspace: four halfwords for each code byte, of which the fourth is the mark. The contracts
-- of the functions that write are equations with these definitions; proofs/Marking joins them with `cut_of`.
use Rattle.std.specs.Prelude.{cond, Err, Ok, List, ℕ, zero, suc, ◌+◌, ◌-◌, ◌*◌, ltb, length, get_or, set}
use Rattle.entries.specs.Entries.{entry_at, entry_count, region_end}
use Rattle.opcode.specs.Decode.{Decoded, undecoded_number, decode_at}
use Rattle.workspace.specs.Checking.{Checking, checking}
use Rattle.layout.specs.Cut.{Marks}

-- The marks that a workspace holds for so many code bytes.
abbrev pub marks_in : List ℕ → ℕ → Marks
marks_in w size at = cond (ltb at size) (get_or w (4 * at + 3) 0) 0

abbrev pub mark_at : (ℕ → List ℕ → Checking) → ℕ → ℕ → List ℕ → Decoded → Checking
mark_at go p at w (Err e) = checking (undecoded_number e) w
mark_at go p at w (Ok (i, next)) = go next (set w (4 * at + 3) (p + 1))

abbrev pub mark_from : List ℕ → ℕ → ℕ → ℕ → List ℕ → Checking
mark_from code p zero at w = checking 0 w
mark_from code p (suc n) at w =
    cond (ltb at (region_end code p)) (mark_at (mark_from code p n) p at w (decode_at code (region_end code p) at)) (checking 0 w)

unfoldable pub mark_region : List ℕ → ℕ → List ℕ → Checking
mark_region code p w = mark_from code p (length code) (entry_at code p) w

abbrev pub then_mark : (List ℕ → Checking) → ℕ → List ℕ → Checking
then_mark go zero w = go w
then_mark go (suc n) w = checking (suc n) w

abbrev pub mark_procedures : List ℕ → ℕ → ℕ → List ℕ → Checking
mark_procedures code p zero w = mark_region code 0 w
mark_procedures code p (suc n) w =
    let a = mark_region code p w in
    then_mark (mark_procedures code (p + 1) n) a.number a.workspace

unfoldable pub mark_all : List ℕ → List ℕ → Checking
mark_all code w = mark_procedures code 1 (entry_count code - 1) w
