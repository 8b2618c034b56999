-- `fast_flow::switch_step` meets its contract: each arm is its code's step.
use mathlib.Core.Path.{◌∙◌, sym}
use Rattle.fast_flow.proofs.switch_step.Goals as goal

pub returns-in-226 : goal.returns-in-226
returns-in-226 c =
    let switch = c.switch in
    λ m A q f e. switch.ensures m A q f (e ∙ c.in-226.is)

pub returns-in-227 : goal.returns-in-227
returns-in-227 c =
    let switch-x = c.switch_x in
    λ m A q f e. switch-x.ensures m A q f (e ∙ c.in-227.is)

pub returns-in-228 : goal.returns-in-228
returns-in-228 c =
    let leave = c.leave in
    λ m A q f e. leave.ensures m A q f (e ∙ c.in-228.is)

pub returns-in_default : goal.returns-in_default
returns-in_default c =
    let operation-step = c.operation_step in
    let a = c.args in
    let pre = c.requires in
    λ m A q f e. operation-step.ensures m a.code.now A q pre.pc_in_bounds (sym e) f
