-- The span of a line (02, K4): "The line lookup is to answer first offset, last offset and line number".
use Rattle.std.specs.Prelude.{cond, List, [], ◌∷◌, ℕ, suc, ◌-◌, ◌/◌, ltb}
use Rattle.header.specs.declared.Header.{Header}
use Rattle.source.specs.declared.Span.{Span}
use Rattle.std.specs.Prelude.{Option}
use Rattle.std.specs.Prelude.{Some, None}
use Rattle.source.specs.Source.{source_offsets, covering, pair_of}

-- The place after the line of the k-th pair: 01, "A line reaches to the next pair, the last one to the end of code".
abbrev pub end_of : List ℕ → Header → ℕ → ℕ
end_of r h k = cond (ltb k (h.sources / 2)) (pair_of r h (suc k)).first h.code

-- The span of the k-th pair: "the last line ends at the last code byte", and "with no pairs, the whole code" is one.
abbrev pub span_of : List ℕ → Header → ℕ → Span
span_of r h k = record { first = (pair_of r h k).first; last = end_of r h k - 1; line = (pair_of r h k).second }

-- The span of the pair that covers an offset; "An offset outside the code" has none.
unfoldable pub lookup_at : List ℕ → Header → ℕ → Option Span
lookup_at r h offset = cond (ltb offset h.code) (Some (span_of r h (covering offset (source_offsets r h)))) None

-- The values of an answer: whether it is marked as outside, first, last and line. "An offset outside the code answers line 0
-- with an empty span, first 0 and last 0, marked as outside."
abbrev pub lookup_values : Option Span → List ℕ
lookup_values (Some s) = 0 ∷ s.first ∷ s.last ∷ s.line ∷ []
lookup_values None = 1 ∷ 0 ∷ 0 ∷ 0 ∷ []

-- The line of an answer.
abbrev pub lookup_line : Option Span → ℕ
lookup_line (Some s) = s.line
lookup_line None = 0
