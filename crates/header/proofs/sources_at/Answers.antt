-- `header::sources_at` meets its contract: sizes of 32 bits make a place that fits.
use native.Mathlib.Omega.{arith}
use Rattle.header.specs.Header.{code_at, constants_at, relocation_at, versions_at, sources_at}
use Rattle.header.proofs.sources_at.Goals as goal

pub overflow_add-result : goal.overflow_add-result
unfolding code_at constants_at relocation_at versions_at
overflow_add-result c = omega arith

pub returns : goal.returns
unfolding sources_at
returns c = omega arith
