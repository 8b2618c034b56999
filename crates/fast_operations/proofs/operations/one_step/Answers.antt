-- `fast_operations::operations::one_step` meets its contract: each arm is its operation's, or NOP's, step.
use mathlib.Core.Path.{◌∙◌, refl, sym}
use Prim.Native.Nat.{◌-◌}
use native.Mathlib.Omega.{arith}
use Rattle.opcode.specs.Table.{row_of}
use Rattle.operate.specs.Operation.{operation_value}
use Rattle.fast.specs.Fast.{spot}
use Rattle.operate.specs.Arithmetic.{negated_value}
use Rattle.operate.specs.Value.{inverted_value}
use Rattle.registers.specs.Memory.{read}
use Rattle.std.proofs.Common.{rules}
use Rattle.fast_operations.proofs.Putting.{puts-one}
use Rattle.fast_operations.proofs.OperationArms.{one_arm, nop-arm}
use Rattle.fast_operations.proofs.operations.one_step.Goals as goal

pub returns-in-166 : goal.returns-in-166
unfolding row_of operation_value
returns-in-166 c =
    let on-one = c.on_one in
    let a = c.args in
    let (v, told, puts) = on-one.ensures in
    λ m code A q room e f.
    one_arm code A q a.pc.now a.height.now m a.stack.now f 0xA6 _ _ (sym e ∙ c.in-166.is)
    refl (λ z. omega arith) refl (λ y. refl) room on-one.result (spot on-one.new.pc on-one.new.height m on-one.new.stack)
    (puts-one on-one.result _ v (negated_value (read a.stack.now (a.height.now - 1))) _ _
    (λ h. let t = told h in search rules) (puts m))

pub returns-in-215 : goal.returns-in-215
unfolding row_of operation_value
returns-in-215 c =
    let on-one = c.on_one-in-215 in
    let a = c.args in
    let (v, told, puts) = on-one.ensures in
    λ m code A q room e f.
    one_arm code A q a.pc.now a.height.now m a.stack.now f 0xD7 _ _ (sym e ∙ c.in-215.is)
    refl (λ z. omega arith) refl (λ y. refl) room on-one.result (spot on-one.new.pc on-one.new.height m on-one.new.stack)
    (puts-one on-one.result _ v (inverted_value (read a.stack.now (a.height.now - 1))) _ _
    (λ h. let t = told h in search rules) (puts m))

pub returns-in-255 : goal.returns-in-255
returns-in-255 c =
    let drop = c.drop in
    let a = c.args in
    λ m code A q room e f.
    nop-arm code A q a.pc.now a.height.now m a.stack.now f (sym e ∙ c.in-255.is) room
    drop.result (spot drop.new.pc drop.new.height m a.stack.now) (drop.ensures m a.stack.now)
