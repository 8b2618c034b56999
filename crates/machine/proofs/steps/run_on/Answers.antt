-- `machine::steps::run_on` meets its contract: each turn unrolls the run by a step, and by what was done at once after it.
use mathlib.Core.Path.{◌∙◌, refl}
use native.Mathlib.Omega.{arith}
use Rattle.registers.specs.Modules.{modules_in}
use Rattle.registers.specs.Program.{running}
use Rattle.registers.specs.State.{state}
use Rattle.step.specs.Step.{left}
use Rattle.step.proofs.Running.{ready-bounds}
use Rattle.machine.proofs.Unrolling.{running-start, turning-ready, turning-short, turning-frames}
use Rattle.machine.proofs.Unrolling.{spent, finished, trapped, still-ready, went, taken-anew, turned}
use Rattle.machine.proofs.steps.run_on.Goals as goal

pub code_in-code-requires : goal.code_in-code-requires
code_in-code-requires c =
    let pre = c.requires in
    record {
      table_len_bound = pre.table_len_bound;
      gp_value = pre.ready.base;
    }

pub attributes_in-attributes-requires : goal.attributes_in-attributes-requires
attributes_in-attributes-requires c =
    let a = c.args in
    let pre = c.requires in
    let S = state a.start.registers a.memory.now a.stack.now in
    let Ms = modules_in a.table.now a.copy.now in
    let F = ready-bounds (running Ms a.start.registers.gp) S pre.ready in
    record {
      table_len_bound = pre.table_len_bound;
      gp_value = pre.ready.base;
      copy_bound = omega (arith, F.attributes, F.room);
    }

pub loop-steps-init : goal.loop-steps-init
loop-steps-init c =
    let attributes-in = c.attributes_in-attributes in
    let Code-in = c.code_in-code in
    let a = c.args in
    let pre = c.requires in
    let S = state a.start.registers a.memory.now a.stack.now in
    record {
      run = running-start (modules_in a.table.now a.copy.now) a.budget a.done S pre.done_le_budget;
      ready = pre.ready;
      gp-is = refl;
      code_is = Code-in.ensures;
      attributes-is = attributes-in.ensures;
    }

pub step_on-stepped-requires : goal.step_on-stepped-requires
step_on-stepped-requires c =
    let loop = c.loop-steps in
    let pre = c.requires in
    let K = loop.invariant in record {
      code_len_bound = turning-short _ _ _ _ _ _ _ _ _ K;
      table_len_bound = pre.table_len_bound;
      ready = turning-ready _ _ _ _ _ _ _ _ _ K;
    }

pub number_after-member-requires : goal.number_after-member-requires
number_after-member-requires c =
    c.requires.table_len_bound

pub code_after-part-requires : goal.code_after-part-requires
code_after-part-requires c =
    let step-on = c.step_on-stepped in
    let number-after = c.number_after-member in
    let loop-test = c.loop-steps-test in
    let loop = c.loop-steps in
    let a = c.args in
    let pre = c.requires in
    let K = loop.invariant in
    let R = turning-ready _ _ _ _ _ _ _ _ _ K in
    let r = left step-on.result step-on.new.memory step-on.new.stack in
    let Ms = modules_in a.table.now a.copy.now in
    let H =
    still-ready Ms a.budget a.done _ _ loop.steps K.run _ _ R r loop-test.true step-on.ensures in
    record {
      table_len_bound = pre.table_len_bound;
      gp_value = H.base;
      code_value = K.code_is;
      member_value = number-after.ensures a.copy.now;
    }

pub attributes_after-attributes-requires : goal.attributes_after-attributes-requires
attributes_after-attributes-requires c =
    let number-after = c.number_after-member in
    let step-on = c.step_on-stepped in
    let loop-test = c.loop-steps-test in
    let loop = c.loop-steps in
    let a = c.args in
    let pre = c.requires in
    let K = loop.invariant in
    let R = turning-ready _ _ _ _ _ _ _ _ _ K in
    let r = left step-on.result step-on.new.memory step-on.new.stack in
    let Ms = modules_in a.table.now a.copy.now in
    let H =
    still-ready Ms a.budget a.done _ _ loop.steps K.run _ _ R r loop-test.true step-on.ensures in
    record {
      table_len_bound = pre.table_len_bound;
      gp_value = H.base;
      copy_bound = turning-frames _ _ _ _ _ _ _ _ _ K;
      attributes_value = K.attributes-is;
      member_value = number-after.ensures a.copy.now;
    }

pub overflow_add-rest : goal.overflow_add-rest
overflow_add-rest c =
    let fits = c.ranges in
    record { fits = omega (arith, c.loop-steps-test.true, fits.budget) }

pub fast_steps-reached-requires : goal.fast_steps-reached-requires
fast_steps-reached-requires c =
    let attributes-after = c.attributes_after-attributes in
    let code-after = c.code_after-part in
    let step-on = c.step_on-stepped in
    let loop-test = c.loop-steps-test in
    let loop = c.loop-steps in
    let a = c.args in
    let K = loop.invariant in
    let R = turning-ready _ _ _ _ _ _ _ _ _ K in
    let r = left step-on.result step-on.new.memory step-on.new.stack in
    let Ms = modules_in a.table.now a.copy.now in
    let H =
    still-ready Ms a.budget a.done _ _ loop.steps K.run _ _ R r loop-test.true step-on.ensures in
    let again = taken-anew _ _ _ _ H code-after.ensures attributes-after.ensures in
    record {
      code_len_bound = rw code-after.ensures (H.short _);
      ready = again;
    }

pub overflow_sub-steps : goal.overflow_sub-steps
overflow_sub-steps c =
    let fast-steps = c.fast_steps-reached in
    omega (arith, fast-steps.ensures.most)

pub overflow_sub-steps-in-Went : goal.overflow_sub-steps-in-Went
overflow_sub-steps-in-Went c =
    let lesser = c.lesser-most in
    omega (arith, lesser.ensures.1)

pub overflow_sub-steps-in-Went-2 : goal.overflow_sub-steps-in-Went-2
overflow_sub-steps-in-Went-2 c = omega arith

pub loop-steps-smaller : goal.loop-steps-smaller
loop-steps-smaller c =
    let fast-steps = c.fast_steps-reached in
    let lesser = c.lesser-most in
    let loop-test = c.loop-steps-test in
    omega (arith, fast-steps.ensures.most, lesser.ensures.1, loop-test.true)

pub loop-steps-preserved : goal.loop-steps-preserved
loop-steps-preserved c =
    let fast-steps = c.fast_steps-reached in
    let lesser = c.lesser-most in
    let attributes-after = c.attributes_after-attributes in
    let code-after = c.code_after-part in
    let step-on = c.step_on-stepped in
    let loop-test = c.loop-steps-test in
    let loop = c.loop-steps in
    let a = c.args in
    let K = loop.invariant in
    let R = turning-ready _ _ _ _ _ _ _ _ _ K in
    let r = left step-on.result step-on.new.memory step-on.new.stack in
    let Ms = modules_in a.table.now a.copy.now in
    let H =
    still-ready Ms a.budget a.done _ _ loop.steps K.run _ _ R r loop-test.true step-on.ensures in
    let again = taken-anew _ _ _ _ H code-after.ensures attributes-after.ensures in
    turned _ _ _ _ _ _ _ _ _ again fast-steps.ensures.ready
    (went Ms a.budget a.done _ _ loop.steps K.run _ _ R r loop-test.true step-on.ensures
    c.in-Went.is _ _ lesser.result fast-steps.result.left _ again lesser.ensures.1 fast-steps.ensures
    (fast-steps.auto.memory ∙ step-on.auto.memory)
    (fast-steps.auto.stack ∙ step-on.auto.stack))
    code-after.ensures attributes-after.ensures

pub overflow_add-steps : goal.overflow_add-steps
overflow_add-steps c =
    let fits = c.ranges in
    record { fits = omega (arith, c.loop-steps-test.true, fits.budget) }

pub ended_at-requires : goal.ended_at-requires
ended_at-requires c =
    c.requires.table_len_bound

pub returns-in-Finished : goal.returns-in-Finished
returns-in-Finished c =
    let ended_at = c.ended_at in
    let step-on = c.step_on-stepped in
    let loop-test = c.loop-steps-test in
    let loop = c.loop-steps in
    let a = c.args in
    let K = loop.invariant in
    let R = turning-ready _ _ _ _ _ _ _ _ _ K in
    let r = left step-on.result step-on.new.memory step-on.new.stack in
    let Ms = modules_in a.table.now a.copy.now in
    rw (ended_at.ensures a.copy.now)
    (finished Ms a.budget a.done _ _ loop.steps K.run _ _ R r loop-test.true step-on.ensures
    c.in-Finished.is)

pub ended_at-requires-in-Trapped : goal.ended_at-requires-in-Trapped
ended_at-requires-in-Trapped c =
    c.requires.table_len_bound

pub returns-in-Trapped : goal.returns-in-Trapped
returns-in-Trapped c =
    let ended-at2 = c.ended_at-in-Trapped in
    let step-on = c.step_on-stepped in
    let loop-test = c.loop-steps-test in
    let loop = c.loop-steps in
    let a = c.args in
    let K = loop.invariant in
    let R = turning-ready _ _ _ _ _ _ _ _ _ K in
    let r = left step-on.result step-on.new.memory step-on.new.stack in
    let Ms = modules_in a.table.now a.copy.now in
    rw (ended-at2.ensures a.copy.now)
    (trapped Ms a.budget a.done _ _ loop.steps K.run _ _ R r loop-test.true step-on.ensures
    c.in-Trapped.trap c.in-Trapped.is)

pub returns : goal.returns
returns c =
    let ended-at3 = c.ended_at-2 in
    let loop-test = c.loop-steps-test in
    let loop = c.loop-steps in
    let a = c.args in
    let K = loop.invariant in
    rw (ended-at3.ensures a.copy.now)
    (spent (modules_in a.table.now a.copy.now) a.budget a.done _ _ loop.steps K.run loop-test.false)
