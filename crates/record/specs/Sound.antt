-- What holds of a record that no number refuses, as a statement.
use Rattle.std.specs.Prelude.{true, List, ◌≡◌, ℕ}
use Rattle.header.specs.Header.{header_of}
use Rattle.source.specs.Source.{source_sound}
use Rattle.record.specs.Number.{record_number}

-- Its source table is sound (6), so that what source/specs/Spans says of spans holds of the line lookup.
abbrev pub SourcesSound : Type 0
SourcesSound = (r : List ℕ) → record_number r ≡ 0 → source_sound r (header_of r) ≡ true
