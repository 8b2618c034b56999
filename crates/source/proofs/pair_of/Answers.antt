-- `source::pair_of` meets its contract: 0 and 0 before the first pair, and the k-th stands 8 bytes behind the one before it.
use mathlib.Core.Path.{◌∙◌}
use native.Mathlib.Omega.{arith}
use Rattle.header.specs.Header.{code_at, constants_at, relocation_at, versions_at, sources_at}
use Rattle.source.proofs.Pairs.{pair-counted}
use Rattle.source.proofs.pair_of.Goals as goal

pub returns-then-k-eq0 : goal.returns-then-k-eq0
returns-then-k-eq0 c = rw c.if-k-eq0.true

pub overflow_add-sources_at : goal.overflow_add-sources_at
unfolding code_at constants_at relocation_at versions_at sources_at
overflow_add-sources_at c = omega arith

pub returns : goal.returns
returns c =
    let a = c.args in
    c.pair_at.ensures ∙ rw c.sources_at.ensures (pair-counted a.r.now a.h a.k c.if-k-eq0.false)
