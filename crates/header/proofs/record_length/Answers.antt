-- `header::record_length` meets its contract: sizes of 32 bits make a length that fits.
use native.Mathlib.Omega.{arith}
use Rattle.header.specs.Header.{code_at, constants_at, relocation_at, versions_at, sources_at, record_length}
use Rattle.header.proofs.record_length.Goals as goal

pub overflow_add-result : goal.overflow_add-result
unfolding code_at constants_at relocation_at versions_at sources_at
overflow_add-result c = omega arith

pub returns : goal.returns
unfolding record_length
returns c = omega arith
