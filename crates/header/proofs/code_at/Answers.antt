-- `header::code_at` meets its contract: sizes of 32 bits make a place that fits.
use native.Mathlib.Omega.{arith}
use Rattle.header.specs.Header.{code_at}
use Rattle.header.proofs.code_at.Goals as goal

pub returns : goal.returns
unfolding code_at
returns c = omega arith
