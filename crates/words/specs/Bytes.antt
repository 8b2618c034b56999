-- Numbers in a list of bytes, highest byte first (01: "Seven header words, highest byte first"; the manual's chapter 4: big endian;
-- 5.2.2: halfword and word are 2-byte and 4-byte values). A read past the end gives 0, so that every read is total.
use Rattle.std.specs.Prelude.{List, ℕ, ◌+◌, ◌*◌, ◌<◌, get_or}
use Rattle.words.specs.Series.{series}

abbrev pub byte_at : List ℕ → ℕ → ℕ
byte_at s i = get_or s i 0

-- A list of bytes.
abbrev pub Bytes : List ℕ → Type 0
Bytes s = (i : ℕ) → byte_at s i < 256

unfoldable pub halfword_at : List ℕ → ℕ → ℕ
halfword_at s i = byte_at s i * 256 + byte_at s (i + 1)

unfoldable pub word_at : List ℕ → ℕ → ℕ
word_at s i = halfword_at s i * 65536 + halfword_at s (i + 2)

-- n words from a place on.
abbrev pub words_from : List ℕ → ℕ → ℕ → List ℕ
words_from r place n = series (word_at r) 4 place n
