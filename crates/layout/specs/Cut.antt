-- Cutting. 01: "Regions are cut end to end into instructions from each entry; The first bad instruction by offset decides between
-- 10 and 11."
use Rattle.std.specs.Prelude.{Bool, cond, Err, Ok, List, ℕ, zero, suc, ◌+◌, ◌-◌, eqb, ltb, length}
use Rattle.entries.specs.Entries.{entry_at, entry_count, region_end}
use Rattle.opcode.specs.Decode.{Decoded, undecoded_number, decode_at}

-- What each offset is: 0, or 1 plus the procedure in whose region an instruction starts there.
abbrev pub Marks : Type 0
Marks = ℕ → ℕ

-- A function changed at one place.
abbrev pub updated {ℓ} : {A : Type ℓ} → (ℕ → A) → ℕ → A → ℕ → A
updated f at x a = cond (eqb a at) x (f a)

-- The marks of the starts, or the number of the first bad instruction.
pub data Cut : Type 0 where
  bad : ℕ → Cut
  cut : Marks → Cut

abbrev pub cut_at : (ℕ → Marks → Cut) → ℕ → ℕ → Marks → Decoded → Cut
cut_at go p at marks (Err e) = bad (undecoded_number e)
cut_at go p at marks (Ok (i, next)) = go next (updated marks at (p + 1))

-- The region of procedure p from an offset on, in at most so many instructions: each has a byte, so the size of the code is enough.
abbrev pub cut_from : List ℕ → ℕ → ℕ → ℕ → Marks → Cut
cut_from code p zero at marks = cut marks
cut_from code p (suc n) at marks =
    cond (ltb at (region_end code p)) (cut_at (cut_from code p n) p at marks (decode_at code (region_end code p) at)) (cut marks)

abbrev pub then_cut : (Marks → Cut) → Cut → Cut
then_cut go (bad n) = bad n
then_cut go (cut marks) = go marks

-- n procedures from p on, and then procedure 0: rising entries, so that the first bad instruction is the one of lowest offset.
abbrev pub cut_procedures : List ℕ → ℕ → ℕ → Marks → Cut
cut_procedures code p zero marks = cut_from code 0 (length code) (entry_at code 0) marks
cut_procedures code p (suc n) marks =
    then_cut (cut_procedures code (p + 1) n) (cut_from code p (length code) (entry_at code p) marks)

unfoldable pub cut_of : List ℕ → Cut
cut_of code = cut_procedures code 1 (entry_count code - 1) (λ at. 0)

-- An instruction of procedure p starts at an offset.
abbrev pub starts_in : Marks → ℕ → ℕ → Bool
starts_in marks p at = eqb (marks at) (p + 1)
