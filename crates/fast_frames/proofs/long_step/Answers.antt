-- `fast_frames::long_step` meets its contract: each branch is its code's step, whose bytes lie within the code.
use mathlib.Core.Path.{◌∙◌, sym}
use native.Mathlib.Omega.{arith}
use Rattle.fast_frames.proofs.Decoding.{rtn-decodes, enter-decodes, call-decodes, alloc-decodes, free-decodes}
use Rattle.fast_frames.proofs.long_step.Goals as goal

pub rtn-requires : goal.rtn-requires
rtn-requires c =
    let if1 = c.if-b-eq233 in
    let a = c.args in
    let pre = c.requires in
    record {
      code_len_bound = pre.code_len_bound;
      decodes = rtn-decodes a.code.now a.pc.now (sym pre.b_value ∙ if1.true) pre.pc_in_bounds;
      stack_value = pre.stack_value;
    }

pub enter-requires : goal.enter-requires
enter-requires c =
    let byte2 = c.byte-then-b-eq232 in
    let byte = c.byte in
    let if3 = c.if-code-here in
    let if2 = c.if-b-eq232 in
    let a = c.args in
    let pre = c.requires in record {
      code_len_bound = pre.code_len_bound;
      parameters_bound = byte.ensures.1;
      locals_bound = byte2.ensures.1;
      next_in_bounds = if3.false;
      decodes = rw (byte.ensures.0, byte2.ensures.0)
          (enter-decodes a.code.now a.pc.now (sym pre.b_value ∙ if2.true) if3.false);
      stack_value = pre.stack_value;
    }

pub call-requires : goal.call-requires
call-requires c =
    let if5 = c.if-b-eq229 in
    let if4 = c.if-code-here-2 in
    let a = c.args in
    let pre = c.requires in record {
      code_len_bound = pre.code_len_bound;
      count_value = pre.count_value;
      next_in_bounds = omega (arith, if4.false);
      decodes = call-decodes a.code.now a.pc.now (sym pre.b_value ∙ if5.true) if4.false;
      stack_value = pre.stack_value;
    }

pub alloc-requires : goal.alloc-requires
alloc-requires c =
    let if6 = c.if-b-eq216 in
    let if4 = c.if-code-here-2 in
    let a = c.args in
    let pre = c.requires in record {
      code_len_bound = pre.code_len_bound;
      next_in_bounds = omega (arith, if4.false);
      decodes = alloc-decodes a.code.now a.pc.now (sym pre.b_value ∙ if6.true) pre.pc_in_bounds;
      stack_value = pre.stack_value;
    }

pub free-requires : goal.free-requires
free-requires c =
    let if7 = c.if-b-eq217 in
    let if4 = c.if-code-here-2 in
    let a = c.args in
    let pre = c.requires in record {
      code_len_bound = pre.code_len_bound;
      next_in_bounds = omega (arith, if4.false);
      decodes = free-decodes a.code.now a.pc.now (sym pre.b_value ∙ if7.true) pre.pc_in_bounds;
      stack_value = pre.stack_value;
    }
