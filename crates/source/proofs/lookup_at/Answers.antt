-- `source::lookup_at` meets its contract: outside the code no span, else that of the pair that covers the offset.
use mathlib.Core.Path.{◌≡◌}
use native.Mathlib.Omega.{arith}
use borrow.Author.Tests.{le-ltb, lt-ltb}
use Rattle.source.specs.Source.{source_offsets, covering}
use Rattle.source.specs.Span.{lookup_at}
use Rattle.source.proofs.SpanLaws.{ends-behind}
use Rattle.source.proofs.lookup_at.Goals.{After-pairs_covering-k}
use Rattle.source.proofs.lookup_at.Goals as goal

pub returns-then-h-offset : goal.returns-then-h-offset
unfolding lookup_at
returns-then-h-offset c = rw (le-ltb _ _ c.if-h-offset.true)

-- The pair is the one that covers the offset.
covers : (c : After-pairs_covering-k) →
    let a = c.args in
    c.pairs_covering-k.result ≡ covering a.offset (source_offsets a.r.now a.h)
covers c = c.pairs_covering-k.ensures

-- The span has a byte before its end.
pub overflow_sub-result : goal.overflow_sub-result
overflow_sub-result c =
    let a = c.args in
    let behind = ends-behind a.r.now a.h a.offset c.if-h-offset.false in
    rw (c.end_of-end.ensures, covers (goal.at.overflow_sub-result c).After-pairs_covering-k) (omega arith)

pub returns : goal.returns
unfolding lookup_at
returns c =
    rw (
      lt-ltb _ _ c.if-h-offset.false,
      c.pair_of-pair.ensures,
      c.end_of-end.ensures,
      covers (goal.at.returns c).After-pairs_covering-k,
    )
