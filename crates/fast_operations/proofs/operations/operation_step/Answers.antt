-- `fast_operations::operations::operation_step` meets its contract: each arm is its operation's step.
use mathlib.Core.Path.{◌∙◌, refl, sym}
use native.Mathlib.Omega.{arith}
use Rattle.opcode.specs.Table.{row_of}
use Rattle.operate.specs.Operation.{operation_value}
use Rattle.fast.specs.Fast.{spot}
use Rattle.fast_operations.proofs.OperationArms.{two-arm}
use Rattle.fast_operations.proofs.operations.operation_step.Goals as goal

pub returns-in-160 : goal.returns-in-160
unfolding row_of operation_value
returns-in-160 c =
    let signed-two = c.signed_two in
    let a = c.args in
    λ m code A q room e f.
    two-arm code A q a.pc.now a.height.now m a.stack.now f 0xA0 _ _ (sym e ∙ c.in-160.is)
    refl (λ z. omega arith) refl refl room signed-two.result
    (spot signed-two.new.pc signed-two.new.height m signed-two.new.stack) (signed-two.ensures m)

pub returns-in-161 : goal.returns-in-161
unfolding row_of operation_value
returns-in-161 c =
    let signed-two2 = c.signed_two-in-161 in
    let a = c.args in
    λ m code A q room e f.
    two-arm code A q a.pc.now a.height.now m a.stack.now f 0xA1 _ _ (sym e ∙ c.in-161.is)
    refl (λ z. omega arith) refl refl room signed-two2.result
    (spot signed-two2.new.pc signed-two2.new.height m signed-two2.new.stack) (signed-two2.ensures m)

pub returns-in-162 : goal.returns-in-162
unfolding row_of operation_value
returns-in-162 c =
    let signed-two3 = c.signed_two-in-162 in
    let a = c.args in
    λ m code A q room e f.
    two-arm code A q a.pc.now a.height.now m a.stack.now f 0xA2 _ _ (sym e ∙ c.in-162.is)
    refl (λ z. omega arith) refl refl room signed-two3.result
    (spot signed-two3.new.pc signed-two3.new.height m signed-two3.new.stack) (signed-two3.ensures m)

pub returns-in-163 : goal.returns-in-163
unfolding row_of operation_value
returns-in-163 c =
    let signed-two4 = c.signed_two-in-163 in
    let a = c.args in
    λ m code A q room e f.
    two-arm code A q a.pc.now a.height.now m a.stack.now f 0xA3 _ _ (sym e ∙ c.in-163.is)
    refl (λ z. omega arith) refl refl room signed-two4.result
    (spot signed-two4.new.pc signed-two4.new.height m signed-two4.new.stack) (signed-two4.ensures m)

pub returns-in-165 : goal.returns-in-165
unfolding row_of operation_value
returns-in-165 c =
    let signed-two5 = c.signed_two-in-165 in
    let a = c.args in
    λ m code A q room e f.
    two-arm code A q a.pc.now a.height.now m a.stack.now f 0xA5 _ _ (sym e ∙ c.in-165.is)
    refl (λ z. omega arith) refl refl room signed-two5.result
    (spot signed-two5.new.pc signed-two5.new.height m signed-two5.new.stack) (signed-two5.ensures m)
