-- The source table, which pair covers an offset, and the line of an offset.
use Rattle.std.specs.Prelude.{Bool, cond, ◌&&◌, List, [], ◌∷◌, ℕ, zero, suc, ◌+◌, ◌*◌, ◌/◌, ◌%◌, leb, ltb, eqb}
use Rattle.words.specs.Series.{series}
use Rattle.words.specs.Bytes.{word_at}
use Rattle.cursor.specs.declared.Pair.{Pair}
use Rattle.cursor.specs.Cursor.{pair_at}
use Rattle.header.specs.declared.Header.{Header}
use Rattle.header.specs.Header.{sources_at}
use Rattle.words.specs.Order.{rising}

-- The first words of n pairs from place `at` on.
abbrev pub offsets_from : List ℕ → ℕ → ℕ → List ℕ
offsets_from r at n = series (word_at r) 8 at n

-- 01: "The source table is pairs (offset, line)".
unfoldable pub source_offsets : List ℕ → Header → List ℕ
source_offsets r h = offsets_from r (sources_at h) (h.sources / 2)

-- 01: "offsets strictly rising and below the code size"; number 6: "source table odd or not as above".
unfoldable pub source_sound : List ℕ → Header → Bool
source_sound r h = eqb (h.sources % 2) 0 && rising h.code (source_offsets r h)

-- How many pairs, from the first on, begin at or before an offset: the last of these is the one that covers it, and 0 is none.
abbrev pub covering : ℕ → List ℕ → ℕ
covering offset [] = 0
covering offset (x ∷ xs) = cond (leb x offset) (suc (covering offset xs)) 0

-- The k-th pair, counted from 1. Before the first one it is as if a pair (0, 0) stood there. 01: "before the first pair ..
-- the line is 0"; 02, K4: "before the first pair it answers from 0 .., line 0".
abbrev pub pair_of : List ℕ → Header → ℕ → Pair
pair_of r h zero = record { first = 0; second = 0 }
pair_of r h (suc k) = pair_at r (sources_at h + 8 * k)

-- 01: "A line reaches to the next pair, the last one to the end of code; before the first pair or outside the code the line
-- is 0."
unfoldable pub line_at : List ℕ → Header → ℕ → ℕ
line_at r h offset = cond (ltb offset h.code) (pair_of r h (covering offset (source_offsets r h))).second 0
