-- The numbers 1 to 7, what reading a record answers, and the line lookup.
use Rattle.std.specs.Prelude.{cond, not, Result, Ok, Err, Option, List, [], ◌∷◌, ◌++◌, ℕ, ltb, eqb, length}
use Rattle.words.specs.Refusal.{Test, refusal, ◌when◌}
use Rattle.header.specs.Header.{header_of, sizes_fit, record_length, code_of}
use Rattle.version.specs.Version.{version_sound}
use Rattle.source.specs.Source.{source_sound}
use Rattle.source.specs.Span.{lookup_at, lookup_values}
use Rattle.entries.specs.Entries.{entries_sound}
use Rattle.header.specs.declared.Header.{Header}
use Rattle.source.specs.declared.Span.{Span}

-- 01's table: record under 28 bytes; a size above its maximum; length not that of the parts. Mending makes these tests too (02, K12).
abbrev pub size_tests : List ℕ → List Test
size_tests r =
    let h = header_of r in
    1 when ltb (length r) 28
    ∷ 2 when not (sizes_fit h)
    ∷ 3 when not (eqb (length r) (record_length h))
    ∷ []

unfoldable pub size_number : List ℕ → ℕ
size_number r = refusal (size_tests r)

-- 5, 6 and 7 of 01's table: version word malformed; source table odd or not as above; entries not as above. Refusal 4 is withdrawn
-- (02, K1).
abbrev pub part_tests : List ℕ → List Test
part_tests r =
    let h = header_of r in
    5 when not (version_sound r h)
    ∷ 6 when not (source_sound r h)
    ∷ 7 when not (entries_sound (code_of r))
    ∷ []

abbrev pub record_tests : List ℕ → List Test
record_tests r = size_tests r ++ part_tests r

unfoldable pub record_number : List ℕ → ℕ
record_number r = refusal (record_tests r)

-- The number of a call that makes these tests after those of the record.
abbrev pub after_record : List ℕ → List Test → ℕ
after_record r tests = cond (eqb (record_number r) 0) (refusal tests) (record_number r)

-- What reading a record answers: the number that refuses it, or its header.
abbrev pub Reading : Type 0
Reading = Result Header ℕ

unfoldable pub reading_of : List ℕ → Reading
reading_of r = cond (eqb (record_number r) 0) (Ok (header_of r)) (Err (record_number r))

-- The number of a reading, 0 where the record is sound.
abbrev pub reading_number : Reading → ℕ
reading_number (Err n) = n
reading_number (Ok h) = 0

-- What the line lookup answers: the number that refuses the record, or the span, where there is one.
abbrev pub Line : Type 0
Line = Result (Option Span) ℕ

-- 01: "the line lookup [makes tests] 1 to 7"; then the span of the line (02, K4).
unfoldable pub line_span : List ℕ → ℕ → Line
line_span r offset =
    cond (eqb (record_number r) 0) (Ok (lookup_at r (header_of r) offset)) (Err (record_number r))

-- The number of a line lookup, 0 where there is a span, and the values.
abbrev pub line_number : Line → ℕ
line_number (Err n) = n
line_number (Ok a) = 0

abbrev pub line_values : Line → List ℕ
line_values (Err n) = []
line_values (Ok a) = lookup_values a
