-- `fast_loop::data_step` meets its contract: a step of the short forms, or of the chain behind them.
use mathlib.Core.Path.{refl}
use native.Mathlib.Omega.{arith}
use Rattle.fast_loop.proofs.data_step.Goals as goal

pub short_step-requires : goal.short_step-requires
short_step-requires c =
    let if1 = c.if-b-lt112 in
    let pre = c.requires in
    record {
      pc_in_bounds = pre.pc_in_bounds;
      b_value = refl;
      b_bound = if1.true;
      stack_value = pre.stack_value;
    }

pub returns-then-b-lt112 : goal.returns-then-b-lt112
returns-then-b-lt112 c =
    let short-step = c.short_step in
    short-step.ensures

pub long_step-requires : goal.long_step-requires
long_step-requires c =
    let pre = c.requires in
    record {
      code_len_bound = omega (arith, pre.code_len_bound);
      pc_in_bounds = pre.pc_in_bounds;
      b_value = refl;
      stack_value = pre.stack_value;
    }

pub returns : goal.returns
returns c =
    let long-step = c.long_step in
    long-step.ensures
