-- What is known where a program is ready: its bounds hold, and the code that a step goes to is that of the module whose first global GP
-- then is.
use mathlib.Core.Bool.{Bool, true, false}
use mathlib.Core.Path.{◌≡◌, ◌∙◌, refl, sym, ap}
use Prim.Native.Nat.{ℕ, ◌<◌}
use lib.Dec.{eqb}
use lib.ListN.{length}
use borrow.Author.Tests.{eq-eqb, eqb-true}
use Rattle.registers.specs.Modules.{module_at, globals_start}
use Rattle.registers.specs.Program.{Program, running}
use Rattle.registers.specs.State.{State}
use Rattle.registers.proofs.Bases.{number-of-base}
use Rattle.state.proofs.Fitting.{Fitting, fit_parts}
use Rattle.step.specs.Step.{code_after}
use Rattle.step.specs.Ready.{Ready}

module _ (P : Program) (S : State) (R : Ready P S) where
  pub ready-bounds : Fitting P.attributes S
  ready-bounds = (fit_parts P S R.fit).own

  -- GP stays.
  pub own_code : code_after P S.registers.gp ≡ P.code
  own_code = rw (eq-eqb S.registers.gp P.attributes.globals ready-bounds.global)

  -- GP is the first global of module k.
  pub code-of-module : (k : ℕ) → k < length P.modules → code_after P (globals_start P.modules k) ≡ (module_at P.modules k).code
  code-of-module k h = by (eqb (globals_start P.modules k) P.attributes.globals) refl
    where
      by : (t : Bool) → eqb (globals_start P.modules k) P.attributes.globals ≡ t
          → code_after P (globals_start P.modules k) ≡ (module_at P.modules k).code
      by true e =
          let same : S.registers.gp ≡ globals_start P.modules k =
          ready-bounds.global ∙ sym (eqb-true (globals_start P.modules k) P.attributes.globals e) in
          let code : P.code ≡ (running P.modules S.registers.gp).code = ap (λ X. X.code) R.is_running in
          rw e (code ∙ rw (same, number-of-base P.modules k h))
      by false e = rw (e, number-of-base P.modules k h)
