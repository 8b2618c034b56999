-- `table::Relocations::of` keeps what its ghost field says: the header's sizes are words.
use native.Mathlib.Omega.{arith}
use Rattle.header.specs.Header.{code_at, constants_at, relocation_at}
use Rattle.relocation.proofs.table.Relocations.of.Goals as goal

pub invariant_of-result : goal.invariant_of-result
unfolding code_at constants_at relocation_at
invariant_of-result c = record { near = omega (arith, c.relocation_at.ensures) }
