-- Run. 01: "The run counts completed steps; a trapped step is not counted. After as many steps as the budget the run answers
-- "spent", unless the last of them finished. A budget is 32 bits; 0 is spent at once."
use Rattle.std.specs.Prelude.{Bool, cond, not, ◌&&◌, List, [], ◌∷◌, ◌≡◌, ℕ, zero, suc, ◌+◌, ◌<◌, eqb, ltb, length}
use Rattle.words.specs.Refusal.{◌when◌}
use Rattle.header.specs.Header.{code_of}
use Rattle.module_set.specs.Members.{Members, single}
use Rattle.relocation.specs.Relocation.{after_set, copy_of, begins}
use Rattle.registers.specs.declared.Registers.{Registers}
use Rattle.step.specs.declared.Outcome.{Outcome}
use Rattle.step.specs.declared.Outcome.TheVariants.{Went, Finished, Trapped}
use Rattle.run.specs.declared.End.{End}
use Rattle.run.specs.declared.End.TheVariants.{Finished as finish, Spent, Trapped as stop}
use Rattle.run.specs.declared.Ended.{Ended as Ending}
use Rattle.run.specs.Answer.{Answer}
use Rattle.std.specs.Prelude.{Err, Ok}
use Rattle.registers.specs.Modules.{Modules, number_at}
use Rattle.registers.specs.Program.{program_at}
use Rattle.registers.specs.State.{State, state}
use Rattle.load.specs.Modules.{modules_of}
use Rattle.step.specs.Step.{step_in}
use Rattle.state.specs.Fits.{fits}
use Rattle.numbers.specs.TrapNumber.{trap_number}

-- 01: "End is 0 finished, 1 spent, or the trap."
abbrev pub end_number : End → ℕ
end_number finish = 0
end_number Spent = 1
end_number (stop t) = trap_number t

-- An end as three words: its number, its place, and the completed steps.
abbrev pub outcome_words : Ending → List ℕ
outcome_words e = end_number e.ending ∷ e.registers.pc ∷ e.steps ∷ []

-- The number of what run answers, 0 where it ended, and the values.
abbrev pub answer_number : Answer → ℕ
answer_number (Err n) = n
answer_number (Ok e) = 0

abbrev pub answer_values : Answer → List ℕ
answer_values (Err n) = []
answer_values (Ok e) = outcome_words e

-- What a run leaves: its answer, and the state. The registers of an end are the state's; a refused run leaves them as they were.
pub record Result : Type 0 where
  pub answer : Answer
  pub state : State

abbrev pub registers_after : Registers → Answer → Registers
registers_after q (Err n) = q
registers_after q (Ok e) = e.registers

-- What the code hands back of a run from registers q, with the memory and the stack that it leaves.
abbrev pub ran : Registers → Answer → List ℕ → List ℕ → Result
ran q a m s = record { answer = a; state = state (registers_after q a) m s }

-- The place of an end is the PC of its registers: "At" is the offset of the finishing RTN, of the next instruction when spent, or
-- of the trapped one. 02, K1: "A place names its module": the one whose globals GP points at.
abbrev pub ended_at : End → (steps member : ℕ) → Registers → Ending
ended_at ending steps member q = record { ending = ending; steps = steps; member = member; registers = q }

abbrev pub ended : Modules → (ending : End) (steps : ℕ) (S : State) → Result
ended Ms ending steps S =
    record { answer = Ok (ended_at ending steps (number_at Ms S.registers.gp) S.registers); state = S }

-- After a step: the run goes on, or ends there.
abbrev pub proceed : Modules → (State → Result) → ℕ → Outcome → State → Result
proceed Ms go count Went S = go S
proceed Ms go count Finished S = ended Ms finish (count + 1) S
proceed Ms go count (Trapped t) S = ended Ms (stop t) count S

-- At most so many more steps, after a count of completed ones.
abbrev pub run_from : (Ms : Modules) (left count : ℕ) → State → Result
run_from Ms zero count S = ended Ms Spent count S
run_from Ms (suc left) count S =
    let a = step_in Ms S in
    proceed Ms (run_from Ms left (count + 1)) count a.outcome a.state

-- The count of an end after n steps that went on: the finishing RTN counts.
abbrev pub counted : End → ℕ → ℕ
counted finish n = n + 1
counted Spent n = n
counted (stop t) n = n

-- "After as many steps as the budget the run answers "spent", unless the last of them finished": a run that ends otherwise has
-- completed fewer before its last step.
abbrev pub Within : End → (n budget : ℕ) → Type 0
Within finish n budget = n < budget
Within Spent n budget = n ≡ budget
Within (stop t) n budget = n < budget

-- 24: "a state that does not fit". 02, K1: "a state fits (24) only with the copy as the load writes it"; "the place's module is GP's",
-- which is module k.
abbrev pub fits_in : Members → (copy : List ℕ) (k : ℕ) → State → Bool
fits_in S copy k T =
    begins (copy_of S) copy && (ltb k (length (modules_of S)) && fits (program_at (modules_of S) k) T)

-- "run [makes tests] 1 to 7 and then 24", with 17 and 18 after 7.
unfoldable pub set_run_number : Members → (copy : List ℕ) (k : ℕ) → State → ℕ
set_run_number S copy k T = after_set S (24 when not (fits_in S copy k T) ∷ [])

-- "Refused loads and runs change nothing." The copy is never written.
abbrev pub refused : ℕ → State → Result
refused n T = record { answer = Err n; state = T }

unfoldable pub set_run : Members → (copy : List ℕ) (budget k : ℕ) → State → Result
set_run S copy budget k T =
    cond (eqb (set_run_number S copy k T) 0) (run_from (modules_of S) budget 0 T) (refused (set_run_number S copy k T) T)

-- A record by itself: the set of one, with its own code as the copy.
abbrev pub run_number : List ℕ → State → ℕ
run_number r T = set_run_number (single r []) (code_of r) 0 T

abbrev pub run_of : (r : List ℕ) (budget : ℕ) → State → Result
run_of r budget T = set_run (single r []) (code_of r) budget 0 T
