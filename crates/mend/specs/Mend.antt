-- Mending, as 02, K12 words it. What goes is a version table whose first word is malformed (5), and what keeps the source table
-- from being sound (6).
use Rattle.std.specs.Prelude.{Result, Ok, Err, Bool, cond, ◌&&◌, ◌||◌, List, [], ◌∷◌, ◌++◌, leb, ltb, eqb, length, take, drop}
use Rattle.std.specs.Prelude.{ℕ, zero, suc, ◌+◌, ◌*◌, ◌-◌, ◌/◌, ◌%◌}
use Rattle.std.proofs.lemmas.List.Edits.{sets}
use Rattle.words.specs.Bytes.{word_at}
use Rattle.words.specs.Refusal.{Test, refusal, ◌when◌}
use Rattle.words.specs.Series.{series}
use Rattle.header.specs.declared.Header.{Header}
use Rattle.header.specs.Header.{header_of, versions_at, sources_at}
use Rattle.version.specs.Version.{version_sound}
use Rattle.record.specs.Number.{size_number}
use Rattle.mend.specs.declared.Mended.{Mended}

-- "A malformed version word empties the version table."
abbrev pub versions_left : List ℕ → Header → ℕ
versions_left r h = cond (version_sound r h) h.versions 0

-- "a pair is kept exactly if its offset is below the code size and above the last kept one": `least` is 1 more than that one, or
-- 0 while none is kept.
abbrev pub keeps : Header → ℕ → ℕ → Bool
keeps h least offset = leb least offset && ltb offset h.code

abbrev pub least_after : Header → ℕ → ℕ → ℕ
least_after h least offset = cond (keeps h least offset) (offset + 1) least

-- Of n pairs from a place on, "from the front": the places of those that are kept, and of both words of the others.
abbrev pub kept_from : List ℕ → Header → (least at n : ℕ) → List ℕ
kept_from r h least at zero = []
kept_from r h least at (suc n) =
    let rest = kept_from r h (least_after h least (word_at r at)) (at + 8) n in
    cond (keeps h least (word_at r at)) (at ∷ rest) rest

abbrev pub dropped_from : List ℕ → Header → (least at n : ℕ) → List ℕ
dropped_from r h least at zero = []
dropped_from r h least at (suc n) =
    let rest = dropped_from r h (least_after h least (word_at r at)) (at + 8) n in
    cond (keeps h least (word_at r at)) rest (at ∷ (at + 4) ∷ rest)

unfoldable pub kept_pairs : List ℕ → Header → List ℕ
kept_pairs r h = kept_from r h 0 (sources_at h) (h.sources / 2)

unfoldable pub dropped_pairs : List ℕ → Header → List ℕ
dropped_pairs r h = dropped_from r h 0 (sources_at h) (h.sources / 2)

-- The places of n words from a place on.
abbrev pub word_places : ℕ → ℕ → List ℕ
word_places at n = series (λ (i : ℕ). i) 4 at n

-- "the byte places of the dropped words in the old record, rising": words of the version table; words of pairs; and the word
-- behind the last whole pair, for "A source table of odd size loses its last word; then" its pairs are looked at.
unfoldable pub dropped_words : List ℕ → List ℕ
dropped_words r =
    let h = header_of r in
    word_places (versions_at h) (h.versions - versions_left r h)
    ++ (dropped_pairs r h ++ word_places (sources_at h + 8 * (h.sources / 2)) (h.sources % 2))

-- A word as its four bytes.
abbrev pub word_bytes : ℕ → List ℕ
word_bytes w = w / 16777216 ∷ w / 65536 % 256 ∷ w / 256 % 256 ∷ w % 256 ∷ []

-- The pairs at these places.
abbrev pub pair_bytes : List ℕ → List ℕ → List ℕ
pair_bytes r [] = []
pair_bytes r (at ∷ places) = take 8 (drop at r) ++ pair_bytes r places

-- The new record: five sizes of the header as they were, the other two "follow"; all parts up to the version table as they were,
-- what is left of that, and the pairs that are kept.
unfoldable pub mended_record : List ℕ → List ℕ
mended_record r =
    let h = header_of r in
    take 20 r
    ++ (word_bytes (versions_left r h)
    ++ (word_bytes (2 * length (kept_pairs r h))
    ++ (take (versions_at h + 4 * versions_left r h - 28) (drop 28 r)
    ++ pair_bytes r (kept_pairs r h))))

-- "Refusals: 1, 2, 3 as for the record before mending, then 8 if record or list does not fit".
abbrev pub fit_tests : List ℕ → List ℕ → List ℕ → List Test
fit_tests r out places = 8 when (ltb (length out) (length (mended_record r)) || ltb (length places) (length (dropped_words r))) ∷ []

unfoldable pub mend_number : List ℕ → List ℕ → List ℕ → ℕ
mend_number r out places = cond (eqb (size_number r) 0) (refusal (fit_tests r out places)) (size_number r)

-- What mending answers: the number that refuses it, or the bytes of the new record and how many words were dropped.
abbrev pub Mending : Type 0
Mending = Result Mended ℕ

-- That, and what it leaves in the two buffers.
pub record Outcome : Type 0 where
  pub answer : Mending
  pub out : List ℕ
  pub places : List ℕ

abbrev pub mending : Mending → List ℕ → List ℕ → Outcome
mending a out places = record { answer = a; out = out; places = places }

-- "It writes a new record into a lent buffer and, into another, the byte places"; a refusal leaves "both buffers untouched", and
-- "a lent buffer past the writing is untouched" (K1).
unfoldable pub mend_of : List ℕ → List ℕ → List ℕ → Outcome
mend_of r out places =
    let n = mend_number r out places in
    cond (eqb n 0)
    (mending (Ok (record { bytes = length (mended_record r); dropped = length (dropped_words r) }))
    (sets out 0 (mended_record r)) (sets places 0 (dropped_words r)))
    (mending (Err n) out places)

-- The number of an answer, and its values: the bytes of the new record and how many words were dropped.
abbrev pub mending_number : Mending → ℕ
mending_number (Err n) = n
mending_number (Ok m) = 0

abbrev pub mending_values : Mending → List ℕ
mending_values (Err n) = []
mending_values (Ok m) = m.bytes ∷ m.dropped ∷ []
