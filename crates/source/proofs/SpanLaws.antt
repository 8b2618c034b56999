-- What holds of spans (specs/Spans): a span reaches from the pair that covers an offset to the next one, and of rising pairs no
-- other covers what lies there.
use mathlib.Core.Bool.{Bool, true, false, cond, and-eq-true_iff}
use mathlib.Core.List.{List}
use mathlib.Core.Path.{◌≡◌, refl}
use Prim.Native.Nat.{ℕ, ◌≤◌, ◌<◌, ◌-◌, ◌/◌, ◌%◌, zero-le}
use native.Mathlib.Omega.{arith}
use lib.Dec.{eqb, ltb}
use borrow.Author.Tests.{ltb-true, lt-ltb, le-ltb}
use Rattle.header.specs.declared.Header.{Header}
use Rattle.words.specs.Order.{rising}
use Rattle.source.specs.declared.Span.{Span}
use Rattle.std.specs.Prelude.{Some, None}
use Rattle.source.specs.Source.{source_offsets, source_sound, covering, pair_of, line_at}
use Rattle.source.specs.Span.{end_of, span_of, lookup_at, lookup_line}
use Rattle.source.specs.Spans.{In, SpanHolds, SameSpan, SpansCover, OutsideHasNone, SpansApart, LineAgrees}
use Rattle.source.specs.Spans.{LastLineEnds, BeforeFirstPair, WithoutPairs}
use Rattle.source.proofs.Pairs.{pairs-length, pair-first, pair_end}
use Rattle.source.proofs.Covering.{covering-most, covering-from, covering-next, rising-limit, covering-only}

told : (b : Bool) (s t : Span) → cond b (Some s) None ≡ Some t → (b ≡ true) × (s ≡ t)
told true s t e = (refl, cc)
told false s t e = let z : ◌≡◌ {A = ℕ} 0 1 = cc in absurd (omega arith)

module _ (r : List ℕ) (h : Header) where
  -- The pair that covers an offset, counted from 1.
  abbrev pub coverer : ℕ → ℕ
  coverer offset = covering offset (source_offsets r h)

  there : (offset : ℕ) → coverer offset ≤ h.sources / 2
  there offset = omega (arith, covering-most offset (source_offsets r h), pairs-length r h)

  -- It begins at or before the offset and ends behind it, whether the table is sound or not.
  begins : (offset : ℕ) → (pair_of r h (coverer offset)).first ≤ offset
  begins offset =
      rw (pair-first r h (coverer offset) (there offset)) (covering-from 0 offset (source_offsets r h) zero-le)

  pub ends-behind : (offset : ℕ) → offset < h.code → offset < end_of r h (coverer offset)
  ends-behind offset within = rw (pair_end r h (coverer offset)) (covering-next h.code offset (source_offsets r h) within)

  found : (offset : ℕ) (s : Span) → lookup_at r h offset ≡ Some s → (offset < h.code) × (span_of r h (coverer offset) ≡ s)
  unfolding lookup_at
  found offset s e =
      let t = told (ltb offset h.code) (span_of r h (coverer offset)) s e in
      (ltb-true offset h.code t.0, t.1)

  module _ (sound : source_sound r h ≡ true) where
    rises : rising h.code (source_offsets r h) ≡ true
    unfolding source_sound
    rises = ((and-eq-true_iff (eqb (h.sources % 2) 0) (rising h.code (source_offsets r h))).0 sound).1

    ends-within : (k : ℕ) → end_of r h k ≤ h.code
    ends-within k = rw (pair_end r h k) (rising-limit h.code 0 k (source_offsets r h) rises)

    only : (offset k : ℕ) → k ≤ h.sources / 2 → (pair_of r h k).first ≤ offset → offset < end_of r h k → coverer offset ≡ k
    only offset k n from to =
        covering-only h.code 0 0 offset k (source_offsets r h) rises (omega (arith, pairs-length r h))
        (rw (pair-first r h k n) at from)
        (rw (pair_end r h k) at to)

pub span-holds : SpanHolds
span-holds r h offset s sound e =
    let f = found r h offset s e in
    let to = ends-behind r h offset f.0 in
    let within = ends-within r h sound (coverer r h offset) in
    rw (← f.1) (record { from_first = begins r h offset; to_last = omega arith }, omega arith)

pub same_span : SameSpan
unfolding lookup_at
same_span r h offset other s sound e i =
    let f = found r h offset s e in
    let k = coverer r h offset in
    let j : In (span_of r h k) other = rw (← f.1) at i in
    let to : other < end_of r h k = omega (arith, j.to_last, ends-behind r h offset f.0) in
    rw (
      lt-ltb other h.code (omega (arith, to, ends-within r h sound k)),
      only r h sound other k (there r h offset) j.from_first to,
      f.1,
    )

pub spans-cover : SpansCover
unfolding lookup_at
spans-cover r h offset within = (span_of r h (coverer r h offset), rw (lt-ltb offset h.code within))

pub outside-has-none : OutsideHasNone
unfolding lookup_at
outside-has-none r h offset out = rw (le-ltb offset h.code out)

pub spans_apart : SpansApart
spans_apart r h one other offset s t sound e f i j =
    let a = same_span r h one offset s sound e i in
    let b = same_span r h other offset t sound f j in
    cc

both-lines : (b : Bool) (s : Span) → lookup_line (cond b (Some s) None) ≡ cond b s.line 0
both-lines true s = refl
both-lines false s = refl

pub line-agrees : LineAgrees
unfolding lookup_at line_at
line-agrees r h offset = both-lines (ltb offset h.code) (span_of r h (coverer r h offset))

pub last-line-ends : LastLineEnds
last-line-ends r h s sound e = let held = span-holds r h (h.code - 1) s sound e in omega (arith, held.0.to_last, held.1)

-- No pair covers the offset: the span is the one before the first pair, which ends at a place.
first-span : (r : List ℕ) (h : Header) (offset end : ℕ) → offset < h.code → coverer r h offset ≡ 0 → end_of r h 0 ≡ end
    → lookup_at r h offset ≡ Some (record { first = 0; last = end - 1; line = 0 })
unfolding lookup_at
first-span r h offset end within none e = rw (lt-ltb offset h.code within, none, e)

pub before-first-pair : BeforeFirstPair
before-first-pair r h offset sound some before =
    let e : end_of r h 0 ≡ (pair_of r h 1).first = rw (lt-ltb 0 (h.sources / 2) some) in
    let to : offset < end_of r h 0 = rw e before in
    first-span r h offset (pair_of r h 1).first (omega (arith, to, ends-within r h sound 0)) (only r h sound offset 0 zero-le zero-le to) e

pub without-pairs : WithoutPairs
without-pairs r h offset none within =
    let e : end_of r h 0 ≡ h.code = rw (le-ltb 0 (h.sources / 2) (omega (arith, none))) in
    first-span r h offset h.code within (omega (arith, there r h offset, none)) e
