-- `machine::steps::run_steps` meets its contract: what is done at once is steps of the run, and the rest goes on from there.
use mathlib.Core.Path.{◌∙◌}
use native.Mathlib.Omega.{arith}
use Rattle.registers.specs.Modules.{modules_in}
use Rattle.registers.specs.Program.{running}
use Rattle.registers.specs.State.{state}
use Rattle.step.proofs.Running.{ready-bounds}
use Rattle.machine.proofs.Unrolling.{first-same, taken-anew, still-running}
use Rattle.machine.proofs.steps.run_steps.Goals as goal

pub attributes_in-attributes-requires : goal.attributes_in-attributes-requires
attributes_in-attributes-requires c =
    let a = c.args in
    let pre = c.requires in
    let S = state a.start.registers a.memory.now a.stack.now in
    let Ms = modules_in a.table.now a.copy.now in
    let F = ready-bounds (running Ms a.start.registers.gp) S pre.ready in
    record {
      table_len_bound = pre.table_len_bound;
      gp_value = pre.ready.base;
      copy_bound = omega (arith, F.attributes, F.room);
    }

pub fast_steps-reached-requires : goal.fast_steps-reached-requires
fast_steps-reached-requires c =
    let attributes-in = c.attributes_in-attributes in
    let Code-in = c.code_in-code in
    let pre = c.requires in
    record {
      code_len_bound = rw Code-in.ensures (pre.ready.short _);
      ready = taken-anew _ _ _ _ pre.ready Code-in.ensures attributes-in.ensures;
    }

pub overflow_sub-done : goal.overflow_sub-done
overflow_sub-done c =
    let fast-steps = c.fast_steps-reached in
    omega (arith, fast-steps.ensures.most)

pub run_on-requires : goal.run_on-requires
run_on-requires c =
    let fast-steps = c.fast_steps-reached in
    let lesser = c.lesser-most in
    let pre = c.requires in
    record {
      table_len_bound = pre.table_len_bound;
      done_le_budget = omega (arith, lesser.ensures.1);
      ready = still-running _ _ _ _ fast-steps.ensures.ready;
    }

pub returns : goal.returns
returns c =
    let run_on = c.run_on in
    let fast-steps = c.fast_steps-reached in
    let attributes-in = c.attributes_in-attributes in
    let Code-in = c.code_in-code in
    let lesser = c.lesser-most in
    let a = c.args in
    let pre = c.requires in
    let again = taken-anew _ _ _ _ pre.ready Code-in.ensures attributes-in.ensures in
    run_on.ensures
    ∙ first-same _ _ _ a.budget lesser.result fast-steps.result.left _ _ again lesser.ensures.1
    fast-steps.ensures
