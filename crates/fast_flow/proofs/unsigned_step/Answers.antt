-- `fast_flow::unsigned_step` meets its contract: each arm is its operation's step.
use mathlib.Core.Path.{◌∙◌, refl}
use native.Mathlib.Omega.{arith}
use Rattle.opcode.specs.Table.{row_of}
use Rattle.operate.specs.Operation.{operation_value}
use Rattle.fast.specs.Fast.{spot}
use Rattle.fast_operations.proofs.OperationArms.{two-arm}
use Rattle.fast_flow.proofs.unsigned_step.Goals as goal

pub returns-in-168 : goal.returns-in-168
unfolding row_of operation_value
returns-in-168 c =
    let unsigned-two = c.unsigned_two in
    let a = c.args in
    λ m q f e.
    two-arm a.code.now a.attributes q a.pc.now a.height.now m a.stack.now f 0xA8 _ _ (e ∙ c.in-168.is)
    refl (λ z. omega arith) refl refl c.requires.pc_in_bounds unsigned-two.result
    (spot unsigned-two.new.pc unsigned-two.new.height m unsigned-two.new.stack) (unsigned-two.ensures m)

pub returns-in-169 : goal.returns-in-169
unfolding row_of operation_value
returns-in-169 c =
    let unsigned-two2 = c.unsigned_two-in-169 in
    let a = c.args in
    λ m q f e.
    two-arm a.code.now a.attributes q a.pc.now a.height.now m a.stack.now f 0xA9 _ _ (e ∙ c.in-169.is)
    refl (λ z. omega arith) refl refl c.requires.pc_in_bounds unsigned-two2.result
    (spot unsigned-two2.new.pc unsigned-two2.new.height m unsigned-two2.new.stack) (unsigned-two2.ensures m)

pub returns-in-170 : goal.returns-in-170
unfolding row_of operation_value
returns-in-170 c =
    let unsigned-two3 = c.unsigned_two-in-170 in
    let a = c.args in
    λ m q f e.
    two-arm a.code.now a.attributes q a.pc.now a.height.now m a.stack.now f 0xAA _ _ (e ∙ c.in-170.is)
    refl (λ z. omega arith) refl refl c.requires.pc_in_bounds unsigned-two3.result
    (spot unsigned-two3.new.pc unsigned-two3.new.height m unsigned-two3.new.stack) (unsigned-two3.ensures m)

pub returns-in-171 : goal.returns-in-171
unfolding row_of operation_value
returns-in-171 c =
    let unsigned-two4 = c.unsigned_two-in-171 in
    let a = c.args in
    λ m q f e.
    two-arm a.code.now a.attributes q a.pc.now a.height.now m a.stack.now f 0xAB _ _ (e ∙ c.in-171.is)
    refl (λ z. omega arith) refl refl c.requires.pc_in_bounds unsigned-two4.result
    (spot unsigned-two4.new.pc unsigned-two4.new.height m unsigned-two4.new.stack) (unsigned-two4.ensures m)

pub returns-in-173 : goal.returns-in-173
unfolding row_of operation_value
returns-in-173 c =
    let unsigned-two5 = c.unsigned_two-in-173 in
    let a = c.args in
    λ m q f e.
    two-arm a.code.now a.attributes q a.pc.now a.height.now m a.stack.now f 0xAD _ _ (e ∙ c.in-173.is)
    refl (λ z. omega arith) refl refl c.requires.pc_in_bounds unsigned-two5.result
    (spot unsigned-two5.new.pc unsigned-two5.new.height m unsigned-two5.new.stack) (unsigned-two5.ensures m)
