-- `fast_operations::operations::signed_two` meets its contract: the value of the operation is put.
use Prim.Native.Nat.{◌-◌}
use Rattle.std.proofs.Common.{rules}
use Rattle.registers.specs.Memory.{read}
use Rattle.operate.specs.Arithmetic.{signed_value}
use Rattle.fast_operations.proofs.Putting.{puts-two}
use Rattle.fast_operations.proofs.operations.signed_two.Goals as goal

pub returns : goal.returns
returns c =
    let a = c.args in
    let x = read a.stack.now (a.height.now - 2) in
    let y = read a.stack.now (a.height.now - 1) in
    let (v, told, puts) = c.on_two.ensures in
    λ m.
    puts-two c.on_two.result _ v (signed_value a.op x y) _ _
    (λ h. let e = told h in search rules) (puts m)
