-- A run as its steps. The letter: "every run, accepted code or not, gives the memory, stack, trap, place and step count that the
-- manual's steps give as our document reads them." 02, K1: "Demands 2 and 3 now speak of a set of modules".
use Rattle.std.specs.Prelude.{List, ◌≡◌, ℕ, suc}
use Rattle.module_set.specs.Members.{Members}
use Rattle.registers.specs.Modules.{Modules}
use Rattle.registers.specs.State.{State}
use Rattle.load.specs.Modules.{modules_of}
use Rattle.step.specs.declared.Outcome.TheVariants.{Went, Finished as finishes, Trapped as traps}
use Rattle.step.specs.Step.{step_in}
use Rattle.run.specs.declared.End.{End}
use Rattle.run.specs.declared.End.TheVariants.{Finished, Spent, Trapped}
use Rattle.run.specs.Run.{Result, ended, counted, Within, set_run_number, set_run}

-- So many completed steps lead from T to a state.
pub data Completes (Ms : Modules) (T : State) : ℕ → State → Type 0 where
  none : Completes Ms T 0 T
  one_more : {n : ℕ} {T' : State} → Completes Ms T n T' → (step_in Ms T').outcome ≡ Went
      → Completes Ms T (suc n) (step_in Ms T').state

-- What the step does before which a run ends: it finishes, or traps; a spent run does not look.
abbrev pub StopsBy : Modules → State → End → Type 0
StopsBy Ms T Finished = (step_in Ms T).outcome ≡ finishes
StopsBy Ms T Spent = Unit {0}
StopsBy Ms T (Trapped t) = (step_in Ms T).outcome ≡ traps t

pub record BySteps (Ms : Modules) (T : State) (budget : ℕ) (run : Result) : Type 0 where
  pub steps : ℕ
  pub last : State
  pub completes : Completes Ms T steps last
  pub ending : End
  pub stops_by : StopsBy Ms last ending
  -- 01: "After as many steps as the budget the run answers "spent", unless the last of them finished."
  pub within : Within ending steps budget
  pub ends : run ≡ ended Ms ending (counted ending steps) last

abbrev pub RunsBySteps : Type 0
RunsBySteps =
    (S : Members) (copy : List ℕ) (budget k : ℕ) (T : State) → set_run_number S copy k T ≡ 0
    → BySteps (modules_of S) T budget (set_run S copy budget k T)
