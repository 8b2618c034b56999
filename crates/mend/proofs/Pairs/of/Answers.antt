-- `mend::Pairs::of` keeps what its ghost field says: the header's sizes are words.
use native.Mathlib.Omega.{arith}
use Rattle.header.specs.Header.{code_at, constants_at, relocation_at, versions_at, sources_at}
use Rattle.mend.proofs.Pairs.of.Goals as goal

pub invariant_of-result : goal.invariant_of-result
unfolding code_at constants_at relocation_at versions_at sources_at
invariant_of-result c = record { near = omega (arith, c.sources_at.ensures) }
