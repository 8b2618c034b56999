-- How the code reads the directory; proofs/Shares joins this with `members_of`.
use Rattle.std.specs.Prelude.{cond, List, [], ◌∷◌, ℕ, zero, suc, ◌+◌, ◌*◌, ◌/◌, eqb, ltb, length, get_or}
use Rattle.words.specs.Series.{series}

-- Word j of row k; 0 where there is no such row.
unfoldable pub row_word : List ℕ → ℕ → ℕ → ℕ
row_word directory k j = cond (ltb k (length directory / 4)) (get_or directory (4 * k + j) 0) 0

-- Where the share of module k begins, its size standing in word j of its row.
abbrev pub shares_before : List ℕ → ℕ → ℕ → ℕ
shares_before directory j zero = 0
shares_before directory j (suc k) = shares_before directory j k + row_word directory k j

-- The SIDs of n rows from row k on.
abbrev pub sids_in : List ℕ → ℕ → ℕ → List ℕ
sids_in directory k n = series (λ (i : ℕ). row_word directory i 0) 1 k n

-- The place of a SID among these, the first being k; 0 where it is none of them.
abbrev pub seek_from : ℕ → List ℕ → ℕ → ℕ
seek_from k [] sid = 0
seek_from k (x ∷ xs) sid = cond (eqb x sid) k (seek_from (k + 1) xs sid)
