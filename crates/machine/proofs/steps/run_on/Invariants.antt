-- `machine::steps::run_on` meets its contract: each turn unrolls the run by a step, and by what was done at once after it.
use Prim.Native.Nat.{◌-◌}
use Rattle.registers.specs.Modules.{modules_in}
use Rattle.registers.specs.State.{state}
use Rattle.machine.proofs.Unrolling.{Turning}
use Rattle.machine.proofs.steps.run_on.Given as goal

abbrev pub invariant-loop-steps : goal.invariant-loop-steps
invariant-loop-steps l =
    Turning (modules_in l.table l.copy) l.budget l.done (state l.initial.machine.registers l.initial.memory l.initial.stack)
    (state l.machine.registers l.memory l.stack) l.steps l.gp l.code l.attributes

abbrev pub decreases-loop-steps : goal.decreases-loop-steps
decreases-loop-steps l = l.budget - l.steps
