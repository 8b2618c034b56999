-- `header::constants_at` meets its contract: sizes of 32 bits make a place that fits.
use native.Mathlib.Omega.{arith}
use Rattle.header.specs.Header.{code_at, constants_at}
use Rattle.header.proofs.constants_at.Goals as goal

pub overflow_add-result : goal.overflow_add-result
unfolding code_at
overflow_add-result c = omega arith

pub returns : goal.returns
unfolding constants_at
returns c = omega arith
