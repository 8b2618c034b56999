-- `fast_frames::frame_step` meets its contract: a short call has its operand in the code byte.
use mathlib.Core.Path.{refl}
use native.Mathlib.Omega.{arith}
use Rattle.fast_frames.proofs.Decoding.{call-short}
use Rattle.fast_frames.proofs.frame_step.Goals as goal

pub long_step-requires : goal.long_step-requires
long_step-requires c =
    let if1 = c.if-code-here in
    let pre = c.requires in
    record {
      code_len_bound = pre.code_len_bound;
      count_value = pre.count_value;
      pc_in_bounds = if1.false;
      b_value = refl;
      stack_value = pre.stack_value;
    }

pub call-requires : goal.call-requires
call-requires c =
    let if3 = c.if-b-le112 in
    let if2 = c.if-b-ge128 in
    let if1 = c.if-code-here in
    let a = c.args in
    let pre = c.requires in record {
      code_len_bound = pre.code_len_bound;
      count_value = pre.count_value;
      next_in_bounds = omega (arith, if1.false);
      decodes = call-short a.code.now a.pc.now _ refl if1.false if3.false (omega (arith, if2.false));
      stack_value = pre.stack_value;
    }
