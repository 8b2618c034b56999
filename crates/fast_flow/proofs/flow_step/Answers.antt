-- `fast_flow::flow_step` meets its contract: each arm is its code's step.
use Rattle.state.proofs.Fitting.{fitting}
use Rattle.fast.specs.Fast.{spot, state_at}
use Rattle.fast_flow.proofs.flow_step.Goals as goal

pub iter-requires : goal.iter-requires
iter-requires c =
    let a = c.args in
    let pre = c.requires in
    let F = fitting a.attributes (state_at a.q (spot a.pc.now a.height.now a.memory.now a.stack.now))
    pre.stack_value in
    record {
      code_len_bound = pre.code_len_bound;
      pc_in_bounds = pre.pc_in_bounds;
      height_in_bounds = F.height;
      mp_in_bounds = F.within;
      stack_value = pre.stack_value;
    }

pub next-requires : goal.next-requires
next-requires c =
    let a = c.args in
    let pre = c.requires in
    let F = fitting a.attributes (state_at a.q (spot a.pc.now a.height.now a.memory.now a.stack.now))
    pre.stack_value in
    record {
      pc_in_bounds = pre.pc_in_bounds;
      height_in_bounds = F.height;
      mp_in_bounds = F.within;
      stack_value = pre.stack_value;
    }

pub unsigned_step-requires : goal.unsigned_step-requires
unsigned_step-requires c =
    let a = c.args in
    let pre = c.requires in
    let F = fitting a.attributes (state_at a.q (spot a.pc.now a.height.now a.memory.now a.stack.now))
    pre.stack_value in
    record {
      code_len_bound = pre.code_len_bound;
      pc_in_bounds = pre.pc_in_bounds;
      height_in_bounds = F.height;
    }
