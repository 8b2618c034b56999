-- `machine::steps::step_on` meets its contract: the step was completed at once, or nothing was written, and the general step
-- makes it.
use mathlib.Core.Path.{◌≡◌, ◌∙◌, sym, ap, subst}
use mathlib.Core.Bool.{true}
use Rattle.registers.specs.Modules.{modules_in}
use Rattle.registers.specs.Program.{program}
use Rattle.registers.specs.State.{State, state}
use Rattle.state.specs.Fits.{bounded}
use Rattle.state.proofs.Fitting.{bounds-held}
use Rattle.step.specs.Step.{step_of}
use Rattle.fast_external.proofs.Going.{frames-end}
use Rattle.machine.proofs.Passing.{passed, stayed}
use Rattle.machine.proofs.steps.step_on.Goals as goal

pub returns-in-Some : goal.returns-in-Some
returns-in-Some c =
    let tried = c.external_on-tried in
    let a = c.args in
    let P = program a.code.now a.attributes (modules_in a.table.now a.copy.now) in
    let S = state a.machine.registers a.memory.now a.stack.now in
    sym (passed tried.result P S _ _ _ c.in-Some.is tried.ensures)

pub step-requires : goal.step-requires
step-requires c =
    let tried = c.external_on-tried in
    let a = c.args in
    let pre = c.requires in
    let P = program a.code.now a.attributes (modules_in a.table.now a.copy.now) in
    let S = state a.machine.registers a.memory.now a.stack.now in
    let same = stayed tried.result P a.machine.registers a.memory.now a.stack.now tried.new.memory tried.new.stack
    c.in-None.is tried.ensures in record {
      code_len_bound = pre.code_len_bound;
      table_len_bound = pre.table_len_bound;
      copy_bound = frames-end P S pre.ready;
      stack_value = subst (λ (T : State). bounded a.attributes T ≡ true) (sym same) (bounds-held P S pre.ready.fit);
    }

pub returns-in-None : goal.returns-in-None
returns-in-None c =
    let tried = c.external_on-tried in
    let a = c.args in
    let P = program a.code.now a.attributes (modules_in a.table.now a.copy.now) in
    let same = stayed tried.result P a.machine.registers a.memory.now a.stack.now tried.new.memory tried.new.stack
    c.in-None.is tried.ensures in
    c.step.ensures ∙ ap (λ (T : State). step_of P T) same
