-- `source::pairs_covering` meets its contract. The loop's invariant: the pairs passed cover the offset, so all that cover
-- it are `k` and those of what is left, and the place has gone 8 bytes a pair. The measure is what is left.
use mathlib.Core.Path.{◌∙◌}
use native.Mathlib.Omega.{arith}
use native.Mathlib.Nat.{sub-zero, sub-eq-zero_of_le}
use borrow.Author.Tests.{le-leb, lt-leb}
use Rattle.cursor.proofs.Pairs.{first_of}
use Rattle.header.specs.Header.{code_at, constants_at, relocation_at, versions_at, sources_at}
use Rattle.source.specs.Source.{source_offsets}
use Rattle.words.proofs.Left.{one_left}
use Rattle.source.proofs.pairs_covering.Goals as goal

pub loop-k-init : goal.loop-k-init
loop-k-init c = (omega arith, omega arith, rw sub-zero (omega arith))

pub returns-then-offset-pair_at : goal.returns-then-offset-pair_at
unfolding source_offsets
returns-then-offset-pair_at c = rw (
  ← c.sources_at-at.ensures,
  c.loop-k.invariant.2,
  one_left _ _ c.loop-k-test.true,
  ← first_of _ _ c.pair_at.ensures,
  lt-leb _ _ c.if-offset-pair_at.true,
) (omega arith)

pub overflow_add-at : goal.overflow_add-at
unfolding code_at constants_at relocation_at versions_at sources_at
overflow_add-at c = omega arith

pub loop-k-preserved : goal.loop-k-preserved
loop-k-preserved c =
    let if1 = c.if-offset-pair_at in
    let pair-at = c.pair_at in
    let loop-test = c.loop-k-test in
    let loop = c.loop-k in (
      omega arith,
      omega arith,
      loop.invariant.2 ∙ rw (one_left _ _ loop-test.true, ← first_of _ _ pair-at.ensures, le-leb _ _ if1.false) (omega arith),
    )

pub returns : goal.returns
unfolding source_offsets
returns c =
    let loop-test = c.loop-k-test in
    let loop = c.loop-k in
    let sources-at = c.sources_at-at in
    rw (← sources-at.ensures, loop.invariant.2, sub-eq-zero_of_le loop-test.false) (omega arith)
