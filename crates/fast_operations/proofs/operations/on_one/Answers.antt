-- `fast_operations::operations::on_one` meets its contract: with too few words the operation is not called, and any value does.
use mathlib.Core.Path.{refl}
use native.Mathlib.Omega.{arith}
use Rattle.std.specs.Prelude.{Ok}
use Rattle.fast_operations.proofs.operations.on_one.Goals as goal

pub returns-then-h-lt1 : goal.returns-then-h-lt1
returns-then-h-lt1 g c = (Ok 0, λ e. absurd (omega (arith, c.if-h-lt1.true)), λ m. refl)
