-- `fast_operations::operations::set_step` meets its contract: each arm is its operation's step.
use mathlib.Core.Path.{◌∙◌, refl, sym}
use mathlib.Core.Bool.{not}
use lib.Dec.{eqb}
use Prim.Native.Nat.{◌-◌}
use native.Mathlib.Omega.{arith}
use Rattle.opcode.specs.Table.{row_of}
use Rattle.operate.specs.Operation.{operation_value}
use Rattle.fast.specs.Fast.{spot}
use Rattle.operate.specs.Value.{truth_of}
use Rattle.registers.specs.Memory.{read}
use Rattle.std.proofs.Common.{rules}
use Rattle.std.specs.Prelude.{Ok}
use Rattle.fast_operations.proofs.Putting.{puts-two}
use Rattle.fast_operations.proofs.OperationArms.{two-arm}
use Rattle.fast_operations.proofs.operations.set_step.Goals as goal

pub returns-in-184 : goal.returns-in-184
unfolding row_of operation_value
returns-in-184 c =
    let set-two = c.set_two in
    let a = c.args in
    λ m code A q room e f.
    two-arm code A q a.pc.now a.height.now m a.stack.now f 0xB8 _ _ (sym e ∙ c.in-184.is)
    refl (λ z. omega arith) refl refl room set-two.result
    (spot set-two.new.pc set-two.new.height m set-two.new.stack) (set-two.ensures m)

pub returns-in-185 : goal.returns-in-185
unfolding row_of operation_value
returns-in-185 c =
    let set-two2 = c.set_two-in-185 in
    let a = c.args in
    λ m code A q room e f.
    two-arm code A q a.pc.now a.height.now m a.stack.now f 0xB9 _ _ (sym e ∙ c.in-185.is)
    refl (λ z. omega arith) refl refl room set-two2.result
    (spot set-two2.new.pc set-two2.new.height m set-two2.new.stack) (set-two2.ensures m)

pub returns-in-186 : goal.returns-in-186
unfolding row_of operation_value
returns-in-186 c =
    let set-two3 = c.set_two-in-186 in
    let a = c.args in
    λ m code A q room e f.
    two-arm code A q a.pc.now a.height.now m a.stack.now f 0xBA _ _ (sym e ∙ c.in-186.is)
    refl (λ z. omega arith) refl refl room set-two3.result
    (spot set-two3.new.pc set-two3.new.height m set-two3.new.stack) (set-two3.ensures m)

pub returns-in-190 : goal.returns-in-190
unfolding row_of operation_value
returns-in-190 c =
    let on-two = c.on_two in
    let a = c.args in
    let x = read a.stack.now (a.height.now - 2) in
    let y = read a.stack.now (a.height.now - 1) in
    let (v, told, puts) = on-two.ensures in
    λ m code A q room e f.
    two-arm code A q a.pc.now a.height.now m a.stack.now f 0xBE _ _ (sym e ∙ c.in-190.is)
    refl (λ z. omega arith) refl refl room on-two.result (spot on-two.new.pc on-two.new.height m on-two.new.stack)
    (puts-two on-two.result _ v (Ok (truth_of (eqb x y))) _ _
    (λ h. let t = told h in search rules) (puts m))

pub returns-in-191 : goal.returns-in-191
unfolding row_of operation_value
returns-in-191 c =
    let on-two = c.on_two-in-191 in
    let a = c.args in
    let x = read a.stack.now (a.height.now - 2) in
    let y = read a.stack.now (a.height.now - 1) in
    let (v, told, puts) = on-two.ensures in
    λ m code A q room e f.
    two-arm code A q a.pc.now a.height.now m a.stack.now f 0xBF _ _ (sym e ∙ c.in-191.is)
    refl (λ z. omega arith) refl refl room on-two.result (spot on-two.new.pc on-two.new.height m on-two.new.stack)
    (puts-two on-two.result _ v (Ok (truth_of (not (eqb x y)))) _ _
    (λ h. let t = told h in search rules) (puts m))

pub returns-in-208 : goal.returns-in-208
unfolding row_of operation_value
returns-in-208 c =
    let set-two4 = c.set_two-in-208 in
    let a = c.args in
    λ m code A q room e f.
    two-arm code A q a.pc.now a.height.now m a.stack.now f 0xD0 _ _ (sym e ∙ c.in-208.is)
    refl (λ z. omega arith) refl refl room set-two4.result
    (spot set-two4.new.pc set-two4.new.height m set-two4.new.stack) (set-two4.ensures m)

pub returns-in-209 : goal.returns-in-209
unfolding row_of operation_value
returns-in-209 c =
    let set-two5 = c.set_two-in-209 in
    let a = c.args in
    λ m code A q room e f.
    two-arm code A q a.pc.now a.height.now m a.stack.now f 0xD1 _ _ (sym e ∙ c.in-209.is)
    refl (λ z. omega arith) refl refl room set-two5.result
    (spot set-two5.new.pc set-two5.new.height m set-two5.new.stack) (set-two5.ensures m)

pub returns-in-210 : goal.returns-in-210
unfolding row_of operation_value
returns-in-210 c =
    let set-two6 = c.set_two-in-210 in
    let a = c.args in
    λ m code A q room e f.
    two-arm code A q a.pc.now a.height.now m a.stack.now f 0xD2 _ _ (sym e ∙ c.in-210.is)
    refl (λ z. omega arith) refl refl room set-two6.result
    (spot set-two6.new.pc set-two6.new.height m set-two6.new.stack) (set-two6.ensures m)
