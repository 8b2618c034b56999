-- `fast_data::long::address_step` meets its contract: each arm is its part's step.
use mathlib.Core.Path.{◌∙◌, sym}
use Rattle.fast_data.proofs.long.address_step.Goals as goal

pub byte_address-requires : goal.byte_address-requires
byte_address-requires c =
    let pre = c.requires in
    record {
      pc_in_bounds = pre.pc_in_bounds;
      b_value = sym c.in-141.is ∙ pre.b_value;
      stack_value = pre.stack_value;
    }

pub returns-in-141 : goal.returns-in-141
returns-in-141 c =
    let byte-address = c.byte_address in
    byte-address.ensures

pub byte_address-requires-in-142 : goal.byte_address-requires-in-142
byte_address-requires-in-142 c =
    let pre = c.requires in
    record {
      pc_in_bounds = pre.pc_in_bounds;
      b_value = sym c.in-142.is ∙ pre.b_value;
      stack_value = pre.stack_value;
    }

pub returns-in-142 : goal.returns-in-142
returns-in-142 c =
    let byte-address2 = c.byte_address-in-142 in
    byte-address2.ensures

pub byte_address-requires-in-143 : goal.byte_address-requires-in-143
byte_address-requires-in-143 c =
    let pre = c.requires in
    record {
      pc_in_bounds = pre.pc_in_bounds;
      b_value = sym c.in-143.is ∙ pre.b_value;
      stack_value = pre.stack_value;
    }

pub returns-in-143 : goal.returns-in-143
returns-in-143 c =
    let byte-address3 = c.byte_address-in-143 in
    byte-address3.ensures

pub half_load-requires : goal.half_load-requires
half_load-requires c =
    let pre = c.requires in
    record {
      pc_in_bounds = pre.pc_in_bounds;
      b_value = sym c.in-144.is ∙ pre.b_value;
      stack_value = pre.stack_value;
    }

pub returns-in-144 : goal.returns-in-144
returns-in-144 c =
    let half-load = c.half_load in
    half-load.ensures

pub byte_address-requires-in-146 : goal.byte_address-requires-in-146
byte_address-requires-in-146 c =
    let pre = c.requires in
    record {
      pc_in_bounds = pre.pc_in_bounds;
      b_value = sym c.in-146.is ∙ pre.b_value;
      stack_value = pre.stack_value;
    }

pub returns-in-146 : goal.returns-in-146
returns-in-146 c =
    let byte-address4 = c.byte_address-in-146 in
    byte-address4.ensures

pub half_load-requires-in-147 : goal.half_load-requires-in-147
half_load-requires-in-147 c =
    let pre = c.requires in
    record {
      pc_in_bounds = pre.pc_in_bounds;
      b_value = sym c.in-147.is ∙ pre.b_value;
      stack_value = pre.stack_value;
    }

pub returns-in-147 : goal.returns-in-147
returns-in-147 c =
    let half-load2 = c.half_load-in-147 in
    half-load2.ensures

pub store_step-requires : goal.store_step-requires
store_step-requires c =
    let pre = c.requires in
    pre

pub returns-in_default : goal.returns-in_default
returns-in_default c =
    let store_step = c.store_step in
    store_step.ensures
