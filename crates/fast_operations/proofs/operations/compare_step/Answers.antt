-- `fast_operations::operations::compare_step` meets its contract: each arm is its operation's step.
use mathlib.Core.Path.{◌∙◌, refl, sym}
use native.Mathlib.Omega.{arith}
use Rattle.opcode.specs.Table.{row_of}
use Rattle.operate.specs.Operation.{operation_value}
use Rattle.fast.specs.Fast.{spot}
use Rattle.fast_operations.proofs.OperationArms.{two-arm}
use Rattle.fast_operations.proofs.operations.compare_step.Goals as goal

pub returns-in-192 : goal.returns-in-192
unfolding row_of operation_value
returns-in-192 c =
    let signed-order = c.signed_order in
    let a = c.args in
    λ m code A q room e f.
    two-arm code A q a.pc.now a.height.now m a.stack.now f 0xC0 _ _ (sym e ∙ c.in-192.is)
    refl (λ z. omega arith) refl refl room signed-order.result
    (spot signed-order.new.pc signed-order.new.height m signed-order.new.stack) (signed-order.ensures m)

pub returns-in-193 : goal.returns-in-193
unfolding row_of operation_value
returns-in-193 c =
    let signed-order2 = c.signed_order-in-193 in
    let a = c.args in
    λ m code A q room e f.
    two-arm code A q a.pc.now a.height.now m a.stack.now f 0xC1 _ _ (sym e ∙ c.in-193.is)
    refl (λ z. omega arith) refl refl room signed-order2.result
    (spot signed-order2.new.pc signed-order2.new.height m signed-order2.new.stack) (signed-order2.ensures m)

pub returns-in-194 : goal.returns-in-194
unfolding row_of operation_value
returns-in-194 c =
    let signed-order3 = c.signed_order-in-194 in
    let a = c.args in
    λ m code A q room e f.
    two-arm code A q a.pc.now a.height.now m a.stack.now f 0xC2 _ _ (sym e ∙ c.in-194.is)
    refl (λ z. omega arith) refl refl room signed-order3.result
    (spot signed-order3.new.pc signed-order3.new.height m signed-order3.new.stack) (signed-order3.ensures m)

pub returns-in-195 : goal.returns-in-195
unfolding row_of operation_value
returns-in-195 c =
    let signed-order4 = c.signed_order-in-195 in
    let a = c.args in
    λ m code A q room e f.
    two-arm code A q a.pc.now a.height.now m a.stack.now f 0xC3 _ _ (sym e ∙ c.in-195.is)
    refl (λ z. omega arith) refl refl room signed-order4.result
    (spot signed-order4.new.pc signed-order4.new.height m signed-order4.new.stack) (signed-order4.ensures m)

pub returns-in-196 : goal.returns-in-196
unfolding row_of operation_value
returns-in-196 c =
    let unsigned-order = c.unsigned_order in
    let a = c.args in
    λ m code A q room e f.
    two-arm code A q a.pc.now a.height.now m a.stack.now f 0xC4 _ _ (sym e ∙ c.in-196.is)
    refl (λ z. omega arith) refl refl room unsigned-order.result
    (spot unsigned-order.new.pc unsigned-order.new.height m unsigned-order.new.stack)
    (unsigned-order.ensures m)

pub returns-in-197 : goal.returns-in-197
unfolding row_of operation_value
returns-in-197 c =
    let unsigned-order2 = c.unsigned_order-in-197 in
    let a = c.args in
    λ m code A q room e f.
    two-arm code A q a.pc.now a.height.now m a.stack.now f 0xC5 _ _ (sym e ∙ c.in-197.is)
    refl (λ z. omega arith) refl refl room unsigned-order2.result
    (spot unsigned-order2.new.pc unsigned-order2.new.height m unsigned-order2.new.stack)
    (unsigned-order2.ensures m)

pub returns-in-198 : goal.returns-in-198
unfolding row_of operation_value
returns-in-198 c =
    let unsigned-order3 = c.unsigned_order-in-198 in
    let a = c.args in
    λ m code A q room e f.
    two-arm code A q a.pc.now a.height.now m a.stack.now f 0xC6 _ _ (sym e ∙ c.in-198.is)
    refl (λ z. omega arith) refl refl room unsigned-order3.result
    (spot unsigned-order3.new.pc unsigned-order3.new.height m unsigned-order3.new.stack)
    (unsigned-order3.ensures m)

pub returns-in-199 : goal.returns-in-199
unfolding row_of operation_value
returns-in-199 c =
    let unsigned-order4 = c.unsigned_order-in-199 in
    let a = c.args in
    λ m code A q room e f.
    two-arm code A q a.pc.now a.height.now m a.stack.now f 0xC7 _ _ (sym e ∙ c.in-199.is)
    refl (λ z. omega arith) refl refl room unsigned-order4.result
    (spot unsigned-order4.new.pc unsigned-order4.new.height m unsigned-order4.new.stack)
    (unsigned-order4.ensures m)
