-- A cursor over a record goes from word to word (5.2.2: a word is a 4-byte value).
use Rattle.std.specs.Prelude.{cond, List, ℕ, ◌+◌, ltb, length}
use Rattle.words.specs.Bytes.{word_at}
use Rattle.cursor.specs.declared.Pair.{Pair}

-- The place after the word at `at`. At or past the end a cursor stays, so that its place needs no bound.
unfoldable pub place_after : List ℕ → ℕ → ℕ
place_after s at = cond (ltb at (length s)) (at + 4) at

-- The words at `at` and behind it.
unfoldable pub pair_at : List ℕ → ℕ → Pair
pair_at s at = record { first = word_at s at; second = word_at s (at + 4) }
