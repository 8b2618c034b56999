-- The entries of the procedures, and their regions. 01: "Code begins with halfword entries. If entry 0 is 2, there is one.
-- Otherwise entry 1 is even, at least 4 and at most 512, and half of it is the number of entries."
use Rattle.std.specs.Prelude.{Bool, cond, ◌&&◌, ◌||◌, List, [], ◌∷◌, ◌++◌, ℕ, ◌+◌, ◌*◌, ◌-◌, ◌/◌, ◌%◌, leb, ltb, eqb, length}
use Rattle.words.specs.Series.{series}
use Rattle.words.specs.Bytes.{halfword_at}
use Rattle.words.specs.Order.{rising}

unfoldable pub entry_at : List ℕ → ℕ → ℕ
entry_at code p = halfword_at code (2 * p)

unfoldable pub entry_count : List ℕ → ℕ
entry_count code = cond (eqb (entry_at code 0) 2) 1 (entry_at code 1 / 2)

unfoldable pub count_sound : List ℕ → Bool
count_sound code =
    eqb (entry_at code 0) 2 || (eqb (entry_at code 1 % 2) 0 && (leb 4 (entry_at code 1) && leb (entry_at code 1) 512))

-- 14: "callee 0 or not in the entries"; 23: "no such callee, 0 included".
abbrev pub no_callee : List ℕ → ℕ → Bool
no_callee code p = eqb p 0 || leb (entry_count code) p

-- The entries of n procedures from p on.
abbrev pub entries_from : List ℕ → ℕ → ℕ → List ℕ
entries_from code p n = series (entry_at code) 1 p n

-- In the order of 01: "Entries 1, 2, .. and then 0".
unfoldable pub entries_in_order : List ℕ → List ℕ
entries_in_order code = entries_from code 1 (entry_count code - 1) ++ (entry_at code 0 ∷ [])

-- 01: "rise strictly and lie below the code size".
unfoldable pub entries_sound : List ℕ → Bool
entries_sound code = count_sound code && rising (length code) (entries_in_order code)

-- 01: "Each procedure's region runs to the next entry in that order", the last one's, procedure 0's, to the end of the code.
unfoldable pub region_end : List ℕ → ℕ → ℕ
region_end code p =
    cond (eqb p 0) (length code) (entry_at code (cond (ltb (p + 1) (entry_count code)) (p + 1) 0))
