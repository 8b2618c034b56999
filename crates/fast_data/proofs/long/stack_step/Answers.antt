-- `fast_data::long::stack_step` meets its contract: each arm is its part's step.
use mathlib.Core.Path.{◌∙◌, sym}
use Rattle.fast_data.proofs.long.stack_step.Goals as goal

pub byte_store-requires : goal.byte_store-requires
byte_store-requires c =
    let pre = c.requires in
    record {
      pc_in_bounds = pre.pc_in_bounds;
      b_value = sym c.in-158.is ∙ pre.b_value;
      stack_value = pre.stack_value;
    }

pub returns-in-158 : goal.returns-in-158
returns-in-158 c =
    let byte-store = c.byte_store in
    byte-store.ensures

pub swap_step-requires : goal.swap_step-requires
swap_step-requires c =
    let pre = c.requires in
    record {
      pc_in_bounds = pre.pc_in_bounds;
      pc_value = sym pre.b_value ∙ c.in-159.is;
      stack_value = pre.stack_value;
    }

pub returns-in-159 : goal.returns-in-159
returns-in-159 c =
    let swap_step = c.swap_step in
    swap_step.ensures

pub double_step-requires : goal.double_step-requires
double_step-requires c =
    let pre = c.requires in
    record {
      pc_in_bounds = pre.pc_in_bounds;
      pc_value = sym pre.b_value ∙ c.in-245.is;
      stack_value = pre.stack_value;
    }

pub returns-in-245 : goal.returns-in-245
returns-in-245 c =
    let double-step = c.double_step in
    double-step.ensures

pub flow_step-requires : goal.flow_step-requires
flow_step-requires c =
    let pre = c.requires in
    pre

pub returns-in_default : goal.returns-in_default
returns-in_default c =
    let flow-step = c.flow_step in
    flow-step.ensures
