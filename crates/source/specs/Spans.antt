-- What holds of spans, as statements. The source table of a sound record is sound (record/specs/Sound).
use Rattle.std.specs.Prelude.{true, List, ◌≡◌, ℕ, ◌≤◌, ◌<◌, ◌-◌, ◌/◌}
use Rattle.header.specs.declared.Header.{Header}
use Rattle.source.specs.declared.Span.{Span}
use Rattle.std.specs.Prelude.{Some, None}
use Rattle.source.specs.Source.{source_sound, pair_of, line_at}
use Rattle.source.specs.Span.{lookup_at, lookup_line}

-- An offset lies in a span.
pub record In (s : Span) (offset : ℕ) : Type 0 where
  pub from_first : s.first ≤ offset
  pub to_last : offset ≤ s.last

-- A found span holds the offset, and lies in the code.
abbrev pub SpanHolds : Type 0
SpanHolds =
    (r : List ℕ) (h : Header) (offset : ℕ) (s : Span) → source_sound r h ≡ true → lookup_at r h offset ≡ Some s
    → In s offset × (s.last < h.code)

-- Every offset of a span has that span.
abbrev pub SameSpan : Type 0
SameSpan =
    (r : List ℕ) (h : Header) (offset other : ℕ) (s : Span) → source_sound r h ≡ true → lookup_at r h offset ≡ Some s → In s other
    → lookup_at r h other ≡ Some s

-- Spans cover the code: each offset of it has one, and an offset outside has none.
abbrev pub SpansCover : Type 0
SpansCover = (r : List ℕ) (h : Header) (offset : ℕ) → offset < h.code → (s : Span) × (lookup_at r h offset ≡ Some s)

abbrev pub OutsideHasNone : Type 0
OutsideHasNone = (r : List ℕ) (h : Header) (offset : ℕ) → h.code ≤ offset → lookup_at r h offset ≡ None

-- Spans do not overlap: two that hold one offset are the same.
abbrev pub SpansApart : Type 0
SpansApart =
    (r : List ℕ) (h : Header) (one other offset : ℕ) (s t : Span) → source_sound r h ≡ true → lookup_at r h one ≡ Some s
    → lookup_at r h other ≡ Some t → In s offset → In t offset → s ≡ t

-- The line of the answer is the line of the offset, 0 outside the code.
abbrev pub LineAgrees : Type 0
LineAgrees = (r : List ℕ) (h : Header) (offset : ℕ) → lookup_line (lookup_at r h offset) ≡ line_at r h offset

-- 02, K4: "the last line ends at the last code byte".
abbrev pub LastLineEnds : Type 0
LastLineEnds =
    (r : List ℕ) (h : Header) (s : Span) → source_sound r h ≡ true → lookup_at r h (h.code - 1) ≡ Some s → s.last ≡ h.code - 1

-- "before the first pair it answers from 0 to the byte before that pair, line 0".
abbrev pub BeforeFirstPair : Type 0
BeforeFirstPair =
    (r : List ℕ) (h : Header) (offset : ℕ) → source_sound r h ≡ true → 1 ≤ h.sources / 2 → offset < (pair_of r h 1).first
    → lookup_at r h offset ≡ Some (record { first = 0; last = (pair_of r h 1).first - 1; line = 0 })

-- "with no pairs, the whole code".
abbrev pub WithoutPairs : Type 0
WithoutPairs =
    (r : List ℕ) (h : Header) (offset : ℕ) → h.sources / 2 ≡ 0 → offset < h.code
    → lookup_at r h offset ≡ Some (record { first = 0; last = h.code - 1; line = 0 })
