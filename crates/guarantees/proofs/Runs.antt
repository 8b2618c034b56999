-- A run is its steps: by recursion over the budget, along the definition of a run. Each of its states is ready, so that the module which
-- GP points at is one of the set's.
use mathlib.Core.List.{List}
use mathlib.Core.Path.{◌≡◌, ◌∙◌, refl, sym, ap}
use Prim.Native.Nat.{ℕ, zero, suc, ◌+◌, ◌<◌}
use native.Mathlib.Omega.{arith}
use lib.ListN.{length}
use Rattle.module_set.specs.Members.{Members}
use Rattle.registers.specs.Modules.{Modules, number_at}
use Rattle.registers.specs.Program.{running}
use Rattle.registers.specs.State.{State}
use Rattle.registers.proofs.Bases.{base-below}
use Rattle.step.specs.declared.Outcome.{Outcome}
use Rattle.step.specs.declared.Outcome.TheVariants.{Went, Finished, Trapped}
use Rattle.step.specs.Step.{step_in}
use Rattle.step.specs.Ready.{Ready}
use Rattle.step.proofs.Outcomes.{step-stops}
use Rattle.step.proofs.Preservation.{step-holds}
use Rattle.load.specs.Modules.{modules_of}
use Rattle.load.proofs.Modules.{modules-length}
use Rattle.run.specs.declared.End.TheVariants.{Finished as finish, Spent, Trapped as stop}
use Rattle.std.specs.Prelude.{Err, Ok}
use Rattle.run.specs.declared.Ended.{Ended as Ending}
use Rattle.run.specs.Run.{Result, ended_at, proceed, run_from, set_run_number, set_run}
use Rattle.run.proofs.Taking.{runs, refuses, taken-ready}
use Rattle.guarantees.specs.Guarantees.{NamesModule}
use Rattle.guarantees.specs.Runs.{Completes, none, one_more, BySteps, RunsBySteps}
use Rattle.guarantees.proofs.Refusals.{end-named}

module _ (Ms : Modules) (T : State) where
  stays : (T' : State) → ((step_in Ms T').outcome ≡ Went → ⊥) → (step_in Ms T').state ≡ T'
  stays T' = step-stops (running Ms T'.registers.gp) T'

  -- After a step with outcome o: it is the last one, or the run goes on from there.
  step-ends : (left n : ℕ) (T' : State) → Completes Ms T n T' → (o : Outcome) → (step_in Ms T').outcome ≡ o
      → ((step_in Ms T').outcome ≡ Went → BySteps Ms T (suc n + left) (run_from Ms left (suc n) (step_in Ms T').state))
      → BySteps Ms T (n + suc left) (proceed Ms (run_from Ms left (n + 1)) n o (step_in Ms T').state)
  step-ends left n T' c Went e later =
      let z : n + 1 ≡ suc n = omega arith in
      let y : n + suc left ≡ suc n + left = omega arith in
      rw (z, y) (later e)
  step-ends left n T' c Finished e later =
      let same = stays T' (λ w. let z : ◌≡◌ {A = ℕ} 0 1 = cc in omega arith) in
      let before : n < n + suc left = omega arith in
      record { steps = n; last = T'; completes = c; ending = finish; stops_by = e; within = before; ends = rw same }
  step-ends left n T' c (Trapped t) e later =
      let same = stays T' (λ w. let z : ◌≡◌ {A = ℕ} 0 1 = cc in omega arith) in
      let before : n < n + suc left = omega arith in
      record { steps = n; last = T'; completes = c; ending = stop t; stops_by = e; within = before; ends = rw same }

  ends-by-steps : (left n : ℕ) (T' : State) → Completes Ms T n T' → BySteps Ms T (n + left) (run_from Ms left n T')
  ends-by-steps zero n T' c =
      let all : n ≡ n + 0 = omega arith in
      record { steps = n; last = T'; completes = c; ending = Spent; stops_by = tt; within = all; ends = refl }
  ends-by-steps (suc left) n T' c =
      step-ends left n T' c (step_in Ms T').outcome refl (λ w. ends-by-steps left (suc n) (step_in Ms T').state (one_more c w))

pub runs-by-steps : RunsBySteps
runs-by-steps S copy budget k T taken =
    let z : budget ≡ 0 + budget = omega arith in
    rw (← runs S copy k T budget taken) (rw (← z) at (ends-by-steps (modules_of S) T budget 0 T none))

-- What is ready stays so.
ready_on : (Ms : Modules) (T : State) → Ready (running Ms T.registers.gp) T → {n : ℕ} {T' : State} → Completes Ms T n T'
    → Ready (running Ms T'.registers.gp) T'
ready_on Ms T R none = R
ready_on Ms T R (one_more {T' = T'} c w) = (step-holds (running Ms T'.registers.gp) T' (ready_on Ms T R c)).ready

not-refused : {R R' : Result} {n : ℕ} {e : Ending} → R' ≡ R → R'.answer ≡ Err n → R.answer ≡ Ok e → ⊥
not-refused same f g = let z : ◌≡◌ {A = ℕ} 0 1 = cc in omega arith

end-inside : (S : Members) (copy : List ℕ) (budget k : ℕ) (T : State) (e : Ending) → set_run_number S copy k T ≡ 0
    → (set_run S copy budget k T).answer ≡ Ok e → number_at (modules_of S) e.registers.gp < length S
end-inside S copy budget k T e taken h =
    let Ms = modules_of S in
    let B = runs-by-steps S copy budget k T taken in
    let same : Ok (ended_at B.ending _ _ B.last.registers) ≡ Ok e =
    ap (λ (x : Result). x.answer) (sym B.ends) ∙ h in
    let place : e.registers.gp ≡ B.last.registers.gp = cc in
    let ready = ready_on Ms T (taken-ready S copy k T taken) B.completes in
    rw place (omega (arith, base-below Ms B.last.registers.gp ready.base, modules-length S))

pub names_module : NamesModule
names_module S copy budget k T e h = by (set_run_number S copy k T) refl
  where
    named : e.member ≡ number_at (modules_of S) e.registers.gp
    named = end-named S copy budget k T e h

    by : (n : ℕ) → set_run_number S copy k T ≡ n → (e.member ≡ number_at (modules_of S) e.registers.gp) × (e.member < length S)
    by zero t = (named, rw named (end-inside S copy budget k T e t h))
    by (suc n) t = absurd (not-refused (refuses S copy k T budget (suc n) t (λ z. omega arith)) refl h)
