-- Statements about every load, step and run of a set, over the definitions that the promises of the functions equal. A record by
-- itself is the set of one.
use Rattle.std.specs.Prelude.{◌≡◌, true, List, ℕ, ◌≤◌, ◌<◌, length, get_or}
use Rattle.module_set.specs.Members.{Members}
use Rattle.registers.specs.Modules.{number_at}
use Rattle.registers.specs.Program.{Program}
use Rattle.registers.specs.State.{State}
use Rattle.registers.specs.Memory.{protects}
use Rattle.std.specs.Prelude.{Err}
use Rattle.load.specs.Modules.{modules_of}
use Rattle.load.specs.Load.{set_load}
use Rattle.step.specs.declared.Outcome.TheVariants.{Trapped}
use Rattle.step.specs.Step.{step_of, step_in}
use Rattle.std.specs.Prelude.{Err, Ok}
use Rattle.run.specs.declared.Ended.{Ended as Ending}
use Rattle.run.specs.declared.End.TheVariants.{Spent}
use Rattle.run.specs.Run.{set_run_number, set_run}
use Rattle.numbers.specs.declared.Trap.{Trap}

-- 01: "Refused loads and runs change nothing."
abbrev pub RefusedLoad : Type 0
RefusedLoad =
    (S : Members) (parameters copy m s : List ℕ) (n : ℕ) → (set_load S parameters copy m s).answer ≡ Err n
    → ((set_load S parameters copy m s).copy ≡ copy) × ((set_load S parameters copy m s).memory ≡ m)

abbrev pub RefusedRun : Type 0
RefusedRun =
    (S : Members) (copy : List ℕ) (budget k : ℕ) (T : State) (n : ℕ) → (set_run S copy budget k T).answer ≡ Err n
    → (set_run S copy budget k T).state ≡ T

-- The letter: "a trapped step leaves the machine as it stood before that step".
abbrev pub TrappedStep : Type 0
TrappedStep = (P : Program) (T : State) (t : Trap) → (step_of P T).outcome ≡ Trapped t → (step_of P T).state ≡ T

-- The count of a run is at most its budget.
abbrev pub CountWithinBudget : Type 0
CountWithinBudget =
    (S : Members) (copy : List ℕ) (budget k : ℕ) (T : State) (e : Ending) → (set_run S copy budget k T).answer ≡ Ok e
    → e.steps ≤ budget

-- 01: "After as many steps as the budget the run answers "spent"", and after no fewer.
abbrev pub SpendsBudget : Type 0
SpendsBudget =
    (S : Members) (copy : List ℕ) (budget k : ℕ) (T : State) (e : Ending) → (set_run S copy budget k T).answer ≡ Ok e
    → e.ending ≡ Spent → e.steps ≡ budget

-- 02, K1: "A place names its module": the end's member is the module whose globals GP points at, and one of the set's.
abbrev pub NamesModule : Type 0
NamesModule =
    (S : Members) (copy : List ℕ) (budget k : ℕ) (T : State) (e : Ending) → (set_run S copy budget k T).answer ≡ Ok e
    → (e.member ≡ number_at (modules_of S) e.registers.gp) × (e.member < length S)

-- 01: "A step writes only stack words below its new height"; and the stack keeps its size.
abbrev pub WritesBelowHeight : Type 0
WritesBelowHeight =
    (P : Program) (T : State)
    → (length (step_of P T).state.stack ≡ length T.stack)
    × ((i : ℕ) → (step_of P T).state.registers.height ≤ i → get_or (step_of P T).state.stack i 0 ≡ get_or T.stack i 0)

-- A step leaves a state that fits, in the module that GP then names, so that a spent run can be continued.
abbrev pub StaysFit : Type 0
StaysFit =
    (S : Members) (copy : List ℕ) (k : ℕ) (T : State) → set_run_number S copy k T ≡ 0
    → let T' = (step_in (modules_of S) T).state in set_run_number S copy (number_at (modules_of S) T'.registers.gp) T' ≡ 0

-- 01: "Header words, constants and the link words of active calls are protected: read, never stored to." 02, K1: those of all
-- modules, and three link words of an external call. And the memory keeps its size.
abbrev pub KeepsProtected : Type 0
KeepsProtected =
    (S : Members) (copy : List ℕ) (k : ℕ) (T : State) → set_run_number S copy k T ≡ 0
    → let T' = (step_in (modules_of S) T).state in
    (length T'.memory ≡ length T.memory)
    × ((a : ℕ) → protects (modules_of S) T.registers T.memory a ≡ true → get_or T'.memory a 0 ≡ get_or T.memory a 0)
