-- The run file. 01: "A run file is "TRK", version 1 in 16 bits, a count byte and the results list, a count byte and parameter words,
-- budget (32 bits), memory words (16), stack words (16), then the record; 8,192 bytes in all, memory to 4,096 words, all numbers
-- highest byte first."
use Rattle.std.specs.Prelude.{Bool, ◌&&◌, List, ℕ, ◌+◌, ◌*◌, eqb, leb, length, take, drop}
use Rattle.words.specs.Bytes.{byte_at, halfword_at, word_at, words_from}

abbrev pub results_count : List ℕ → ℕ
results_count f = byte_at f 5

abbrev pub parameters_count : List ℕ → ℕ
parameters_count f = byte_at f (6 + results_count f)

-- Where the budget stands, behind both lists; memory and stack words follow it, and the record them.
abbrev pub budget_at : List ℕ → ℕ
budget_at f = 7 + results_count f + 4 * parameters_count f

abbrev pub record_at : List ℕ → ℕ
record_at f = budget_at f + 8

unfoldable pub results_of : List ℕ → List ℕ
results_of f = take (results_count f) (drop 6 f)

unfoldable pub parameters_of : List ℕ → List ℕ
parameters_of f = words_from f (7 + results_count f) (parameters_count f)

unfoldable pub budget_of : List ℕ → ℕ
budget_of f = word_at f (budget_at f)

unfoldable pub memory_words : List ℕ → ℕ
memory_words f = halfword_at f (budget_at f + 4)

unfoldable pub stack_words : List ℕ → ℕ
stack_words f = halfword_at f (budget_at f + 6)

unfoldable pub record_of : List ℕ → List ℕ
record_of f = drop (record_at f) f

-- 'T' is 84, 'R' 82, 'K' 75.
abbrev pub named : List ℕ → Bool
named f = eqb (byte_at f 0) 84 && (eqb (byte_at f 1) 82 && eqb (byte_at f 2) 75)

-- 16: "run file malformed or too long"; "Memory over 4,096 in the file is 16."
unfoldable pub well_formed : List ℕ → Bool
well_formed f =
    leb (length f) 8192 && (named f && (eqb (halfword_at f 3) 1 && (leb (record_at f) (length f) && leb (memory_words f) 4096)))
