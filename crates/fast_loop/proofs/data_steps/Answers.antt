-- `fast_loop::data_steps` meets its contract: each turn is one step more that completed.
use mathlib.Core.Path.{refl}
use Rattle.registers.specs.Modules.{modules_in}
use Rattle.fast.specs.Fast.{spot, state_at}
use Rattle.fast_loop.proofs.Stepping.{program_in, reaching-start, reaching-bounded, reaching-next}
use Rattle.fast_loop.proofs.data_steps.Goals as goal

pub loop-rest-init : goal.loop-rest-init
loop-rest-init c =
    let a = c.args in (
      c.saturating_sub-limit.ensures,
      reaching-start (program_in a.table.now a.copy.now a.code.now a.attributes)
          (state_at a.q (spot a.pc.now a.height.now a.memory.now a.stack.now)) a.budget c.requires.ready
          c.requires.pc_bound,
    )

pub data_step-requires-clause-stack_value : goal.data_step-requires-clause-stack_value
data_step-requires-clause-stack_value c = reaching-bounded _ _ _ _ _ c.loop-rest.invariant.1

pub loop-rest-preserved : goal.loop-rest-preserved
loop-rest-preserved c =
    let step = c.data_step in
    let loop = c.loop-rest in
    let a = c.args in (
      loop.invariant.0,
      reaching-next (program_in a.table.now a.copy.now a.code.now a.attributes)
          (state_at a.q (spot a.pc.now a.height.now a.memory.now a.stack.now)) a.budget loop.rest
          (state_at a.q (spot loop.pc loop.height loop.memory loop.stack)) loop.invariant.1 c.loop-rest-test.true
          c.requires.code_len_bound
          (state_at a.q (spot step.new.pc step.new.height step.new.memory step.new.stack))
          refl (rw c.if-data_step.true at (step.ensures (modules_in a.table.now a.copy.now))) step.auto.memory
          step.auto.stack,
    )
