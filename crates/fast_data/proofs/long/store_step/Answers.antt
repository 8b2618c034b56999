-- `fast_data::long::store_step` meets its contract: each arm is its part's step.
use mathlib.Core.Path.{◌∙◌, sym}
use Rattle.fast_data.proofs.long.store_step.Goals as goal

pub byte_store-requires : goal.byte_store-requires
byte_store-requires c =
    let pre = c.requires in
    record {
      pc_in_bounds = pre.pc_in_bounds;
      b_value = sym c.in-148.is ∙ pre.b_value;
      stack_value = pre.stack_value;
    }

pub returns-in-148 : goal.returns-in-148
returns-in-148 c =
    let byte-store = c.byte_store in
    byte-store.ensures

pub byte_store-requires-in-149 : goal.byte_store-requires-in-149
byte_store-requires-in-149 c =
    let pre = c.requires in
    record {
      pc_in_bounds = pre.pc_in_bounds;
      b_value = sym c.in-149.is ∙ pre.b_value;
      stack_value = pre.stack_value;
    }

pub returns-in-149 : goal.returns-in-149
returns-in-149 c =
    let byte-store2 = c.byte_store-in-149 in
    byte-store2.ensures

pub byte_store-requires-in-150 : goal.byte_store-requires-in-150
byte_store-requires-in-150 c =
    let pre = c.requires in
    record {
      pc_in_bounds = pre.pc_in_bounds;
      b_value = sym c.in-150.is ∙ pre.b_value;
      stack_value = pre.stack_value;
    }

pub returns-in-150 : goal.returns-in-150
returns-in-150 c =
    let byte-store3 = c.byte_store-in-150 in
    byte-store3.ensures

pub half_store-requires : goal.half_store-requires
half_store-requires c =
    let pre = c.requires in
    record {
      pc_in_bounds = pre.pc_in_bounds;
      pc_value = sym pre.b_value ∙ c.in-151.is;
      stack_value = pre.stack_value;
    }

pub returns-in-151 : goal.returns-in-151
returns-in-151 c =
    let half-store = c.half_store in
    half-store.ensures

pub stack_step-requires : goal.stack_step-requires
stack_step-requires c =
    let pre = c.requires in
    pre

pub returns-in_default : goal.returns-in_default
returns-in_default c =
    let stack-step = c.stack_step in
    stack-step.ensures
