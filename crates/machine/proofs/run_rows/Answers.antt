-- `machine::run_rows` meets its contract: 24 where the state does not fit its module, else the steps.
use mathlib.Core.Path.{◌≡◌}
use native.Mathlib.Omega.{arith}
use Rattle.registers.specs.Modules.{modules_in, module_at}
use Rattle.registers.specs.Program.{program_at}
use Rattle.registers.specs.State.{state}
use Rattle.registers.proofs.Rows.{modules-length}
use Rattle.state.specs.Fits.{fits}
use Rattle.run.proofs.Taking.{ready-taken}
use Rattle.machine.proofs.run_rows.Goals.{After-state_fits}
use Rattle.machine.proofs.run_rows.Goals as goal

told : (c : After-state_fits) →
    let a = c.args in
    c.state_fits.result
    ≡ fits (program_at (modules_in a.table.now a.copy.now) a.member) (state a.q a.memory.now a.stack.now)
told c =
    let a = c.args in
    let Ms = modules_in a.table.now a.copy.now in
    rw (← c.attributes_at-attributes.ensures a.copy.now)
    (c.state_fits.ensures (module_at Ms a.member).code a.copy.now)

pub returns-then-not-state_fits : goal.returns-then-not-state_fits
returns-then-not-state_fits c =
    let if1 = c.if-not-state_fits in
    let state-fits = c.state_fits in
    rw (← told (goal.at.returns-then-not-state_fits c).After-state_fits, if1.true)

pub run_steps-requires : goal.run_steps-requires
run_steps-requires c =
    let if1 = c.if-not-state_fits in
    let state-fits = c.state_fits in
    let a = c.args in
    let pre = c.requires in
    let Ms = modules_in a.table.now a.copy.now in
    let T = state a.q a.memory.now a.stack.now in record {
      table_len_bound = pre.table_len_bound;
      ready = ready-taken Ms a.member T (omega (arith, pre.member_in_bounds, modules-length a.table.now a.copy.now))
          (rw (← told (goal.at.run_steps-requires c).After-state_fits) (if1.false)) pre.short;
    }

pub returns : goal.returns
returns c =
    let run-steps = c.run_steps in
    let if1 = c.if-not-state_fits in
    let state-fits = c.state_fits in
    rw (
      ← told (goal.at.returns c).After-state_fits,
      if1.false,
    ) run-steps.ensures
