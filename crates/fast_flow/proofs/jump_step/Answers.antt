-- `fast_flow::jump_step` meets its contract: each arm is its code's step.
use mathlib.Core.Path.{◌∙◌}
use Rattle.fast_flow.proofs.jump_step.Goals as goal

pub returns-in-218 : goal.returns-in-218
returns-in-218 c =
    let jump-b = c.jump_b in
    let a = c.args in
    λ m A q f e. jump-b.ensures m a.stack.now A q f (e ∙ c.in-218.is)

pub returns-in-219 : goal.returns-in-219
returns-in-219 c =
    let jump-h = c.jump_h in
    let a = c.args in
    λ m A q f e. jump-h.ensures m a.stack.now A q f (e ∙ c.in-219.is)

pub returns-in-220 : goal.returns-in-220
returns-in-220 c =
    let jump-c-b = c.jump_c_b in
    λ m A q f e. jump-c-b.ensures m A q f (e ∙ c.in-220.is)

pub returns-in-221 : goal.returns-in-221
returns-in-221 c =
    let jump-c-h = c.jump_c_h in
    λ m A q f e. jump-c-h.ensures m A q f (e ∙ c.in-221.is)

pub returns-in-222 : goal.returns-in-222
returns-in-222 c =
    let jump-tf = c.jump_tf in
    λ m A q f e. jump-tf.ensures m A q f (e ∙ c.in-222.is)

pub returns-in-223 : goal.returns-in-223
returns-in-223 c =
    let jump-tf2 = c.jump_tf-in-223 in
    λ m A q f e. jump-tf2.ensures m A q f (e ∙ c.in-223.is)

pub returns-in_default : goal.returns-in_default
returns-in_default c =
    let switch-step = c.switch_step in
    switch-step.ensures
