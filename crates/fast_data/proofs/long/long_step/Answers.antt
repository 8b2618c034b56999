-- `fast_data::long::long_step` meets its contract: each arm is its part's step.
use mathlib.Core.Path.{◌∙◌, sym}
use Rattle.fast_data.proofs.long.long_step.Goals as goal

pub byte_load-requires : goal.byte_load-requires
byte_load-requires c =
    let pre = c.requires in
    record {
      pc_in_bounds = pre.pc_in_bounds;
      b_value = sym c.in-128.is ∙ pre.b_value;
      stack_value = pre.stack_value;
    }

pub returns-in-128 : goal.returns-in-128
returns-in-128 c =
    let byte-load = c.byte_load in
    byte-load.ensures

pub half_load-requires : goal.half_load-requires
half_load-requires c =
    let pre = c.requires in
    record {
      pc_in_bounds = pre.pc_in_bounds;
      b_value = sym c.in-129.is ∙ pre.b_value;
      stack_value = pre.stack_value;
    }

pub returns-in-129 : goal.returns-in-129
returns-in-129 c =
    let half-load = c.half_load in
    half-load.ensures

pub byte_load-requires-in-130 : goal.byte_load-requires-in-130
byte_load-requires-in-130 c =
    let pre = c.requires in
    record {
      pc_in_bounds = pre.pc_in_bounds;
      b_value = sym c.in-130.is ∙ pre.b_value;
      stack_value = pre.stack_value;
    }

pub returns-in-130 : goal.returns-in-130
returns-in-130 c =
    let byte-load2 = c.byte_load-in-130 in
    byte-load2.ensures

pub half_load-requires-in-131 : goal.half_load-requires-in-131
half_load-requires-in-131 c =
    let pre = c.requires in
    record {
      pc_in_bounds = pre.pc_in_bounds;
      b_value = sym c.in-131.is ∙ pre.b_value;
      stack_value = pre.stack_value;
    }

pub returns-in-131 : goal.returns-in-131
returns-in-131 c =
    let half-load2 = c.half_load-in-131 in
    half-load2.ensures

pub word_step-requires : goal.word_step-requires
word_step-requires c =
    let pre = c.requires in
    record {
      pc_in_bounds = pre.pc_in_bounds;
      pc_value = sym pre.b_value ∙ c.in-132.is;
      stack_value = pre.stack_value;
    }

pub returns-in-132 : goal.returns-in-132
returns-in-132 c =
    let word-step = c.word_step in
    word-step.ensures

pub byte_load-requires-in-133 : goal.byte_load-requires-in-133
byte_load-requires-in-133 c =
    let pre = c.requires in
    record {
      pc_in_bounds = pre.pc_in_bounds;
      b_value = sym c.in-133.is ∙ pre.b_value;
      stack_value = pre.stack_value;
    }

pub returns-in-133 : goal.returns-in-133
returns-in-133 c =
    let byte-load3 = c.byte_load-in-133 in
    byte-load3.ensures

pub byte_load-requires-in-134 : goal.byte_load-requires-in-134
byte_load-requires-in-134 c =
    let pre = c.requires in
    record {
      pc_in_bounds = pre.pc_in_bounds;
      b_value = sym c.in-134.is ∙ pre.b_value;
      stack_value = pre.stack_value;
    }

pub returns-in-134 : goal.returns-in-134
returns-in-134 c =
    let byte-load4 = c.byte_load-in-134 in
    byte-load4.ensures

pub byte_load-requires-in-135 : goal.byte_load-requires-in-135
byte_load-requires-in-135 c =
    let pre = c.requires in
    record {
      pc_in_bounds = pre.pc_in_bounds;
      b_value = sym c.in-135.is ∙ pre.b_value;
      stack_value = pre.stack_value;
    }

pub returns-in-135 : goal.returns-in-135
returns-in-135 c =
    let byte-load5 = c.byte_load-in-135 in
    byte-load5.ensures

pub half_load-requires-in-136 : goal.half_load-requires-in-136
half_load-requires-in-136 c =
    let pre = c.requires in
    record {
      pc_in_bounds = pre.pc_in_bounds;
      b_value = sym c.in-136.is ∙ pre.b_value;
      stack_value = pre.stack_value;
    }

pub returns-in-136 : goal.returns-in-136
returns-in-136 c =
    let half-load3 = c.half_load-in-136 in
    half-load3.ensures

pub address_step-requires : goal.address_step-requires
address_step-requires c =
    let pre = c.requires in
    pre

pub returns-in_default : goal.returns-in_default
returns-in_default c =
    let Address-step = c.address_step in
    Address-step.ensures
