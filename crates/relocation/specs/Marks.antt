-- How the code holds places: a byte for each offset, 1 at each of the places. proofs/Marking joins this with the lists of
-- places. And the quick test by which there is none: proofs/Plain.
use Rattle.std.specs.Prelude.{Bool, false, cond, not, ◌&&◌, ◌||◌, List, [], ◌∷◌, ℕ, eqb, ltb, leb, length, get_or, set}
use Rattle.std.specs.List.{list_any}
use Rattle.words.specs.Bytes.{byte_at}
use Rattle.words.specs.Series.{series}
use Rattle.header.specs.Header.{code_of}
use Rattle.module_set.specs.Members.{Members, resolved}
use Rattle.opcode.specs.Table.{Row, row, unserved, row_of}
use Rattle.opcode.specs.declared.instruction.Mode.TheVariants.{Normal}
use Rattle.relocation.specs.Places.{is_external}

abbrev pub marked : List ℕ → List ℕ → List ℕ
marked marks [] = marks
marked marks (at ∷ places) = marked (set marks at 1) places

abbrev pub is_marked : List ℕ → ℕ → Bool
is_marked marks at = not (eqb (get_or marks at 0) 0)

-- A place that is marked has an entry and a number of the import list.
abbrev pub listed_at : (code : List ℕ) (imports : ℕ) (places entries : List ℕ) → ℕ → Bool
listed_at code imports places entries at =
    not (is_marked places at) || (is_marked entries at && (ltb 0 (byte_at code at) && leb (byte_at code at) imports))

-- The first n offsets.
abbrev pub offsets : ℕ → List ℕ
offsets n = series (λ (i : ℕ). i) 1 0 n

-- The codes of external instructions, whatever the operands.
abbrev pub external_row : Row → Bool
external_row unserved = false
external_row (row operands modes make) = is_external (make Normal 0 0)

abbrev pub external_code : ℕ → Bool
external_code b = external_row (row_of b)

-- A byte of the code, be it of an instruction or not, is the code of an external one.
abbrev pub has_external_byte : List ℕ → Bool
has_external_byte code = list_any external_code code

-- The bytes at these entries rewritten, those past the code not.
abbrev pub rewritten : Members → List ℕ → List ℕ → List ℕ → List ℕ
rewritten S r part [] = part
rewritten S r part (at ∷ entries) =
    rewritten S r (cond (ltb at (length (code_of r))) (set part at (resolved S r (byte_at (code_of r) at))) part) entries

-- The byte at an offset, the entries being marked.
abbrev pub marked_byte : Members → (r code entries : List ℕ) → ℕ → ℕ
marked_byte S r code entries at = cond (is_marked entries at) (resolved S r (byte_at code at)) (byte_at code at)
