-- `fast_operations::operations::on_two` meets its contract: with too few words the operation is not called, and any value does.
use mathlib.Core.Path.{refl}
use native.Mathlib.Omega.{arith}
use Rattle.std.specs.Prelude.{Ok}
use Rattle.fast_operations.proofs.operations.on_two.Goals as goal

pub returns-then-h-lt2 : goal.returns-then-h-lt2
returns-then-h-lt2 g c = (Ok 0, λ e. absurd (omega (arith, c.if-h-lt2.true)), λ m. refl)
