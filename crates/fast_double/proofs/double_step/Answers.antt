-- `fast_double::double_step` meets its contract: by the code behind DOUBLE.
use mathlib.Core.Path.{refl}
use Rattle.fast_double.proofs.double_step.Goals as goal

pub double_short-requires : goal.double_short-requires
double_short-requires c =
    let if2 = c.if-b-lt112 in
    let if1 = c.if-code-at in
    let pre = c.requires in
    record {
      pc_in_bounds = if1.false;
      pc_value = pre.pc_value;
      b_value = refl;
      b_bound = if2.true;
      stack_value = pre.stack_value;
    }

pub returns-then-b-lt112 : goal.returns-then-b-lt112
returns-then-b-lt112 c =
    let double-short = c.double_short in
    double-short.ensures

pub double_long-requires : goal.double_long-requires
double_long-requires c =
    let if1 = c.if-code-at in
    let pre = c.requires in
    record {
      pc_in_bounds = if1.false;
      pc_value = pre.pc_value;
      b_value = refl;
      stack_value = pre.stack_value;
    }

pub returns : goal.returns
returns c =
    let double-long = c.double_long in
    double-long.ensures
