-- `check_load_run` meets its contract: each call is its definition, in turn; and the answer is proper by demand 3.
use mathlib.Core.Path.{refl}
use native.Mathlib.Omega.{arith}
use Rattle.numbers.specs.Number.{number_of}
use Rattle.numbers.proofs.Refusing.{refuses, no-number}
use Rattle.record.proofs.Sound.{handed-on}
use Rattle.joined.specs.Joined.{joined_of}
use Rattle.joined.proofs.JoinedCall.{not-accepted, not-loaded, answered-well}
use Rattle.joined.proofs.check_load_run.Goals as goal

pub returns-in_err-check : goal.returns-in_err-check
unfolding joined_of
returns-in_err-check c =
    let e = c.in_err-check.field-0.0 in
    let told = c.in_err-check.ensures in
    let a = c.args in
    rw (handed-on c.from_residual.result e c.from_residual.ensures.1) (
      rw (← told, refuses e),
      not-accepted a.r.now a.results.now a.workspace.now told (no-number e),
    )

pub returns-in-Ok : goal.returns-in-Ok
unfolding joined_of
returns-in-Ok c =
    let accepted = c.in_ok-check.ensures in
    let load = c.load.ensures in
    let run = c.run.ensures in
    let a = c.args in
    let ready = rw c.in-Ok.is at load.0 in (
      rw (← accepted, ← load.0, ← load.1, c.in-Ok.is, ← run.0),
      answered-well a.r.now a.results.now a.workspace.now a.parameters.now a.budget a.memory.now
          a.stack.now (λ k. let h = (c.type_inv.r k).fits in omega arith) accepted refl
          ready load.1 refl run.0,
    )

pub returns-in-Err : goal.returns-in-Err
unfolding joined_of
returns-in-Err c =
    let load = c.load.ensures in
    let a = c.args in
    let refused = rw c.in-Err.is at load.0 in (
      rw (← c.in_ok-check.ensures, ← load.0, ← load.1, c.in-Err.is),
      not-loaded a.r.now a.parameters.now a.memory.now a.stack.now refused refl,
    )
