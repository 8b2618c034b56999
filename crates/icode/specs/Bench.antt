-- Load and run for the bench: what each answers, and what it leaves in copy, memory, stack, state and outcome. The calls over a record
-- are those over a set of one, with its code as the copy.
use Rattle.std.specs.Prelude.{Bool, cond, ◌&&◌, List, [], ◌∷◌, ◌++◌, ℕ, eqb, leb, length, get_or, take}
use Rattle.header.specs.Header.{code_of}
use Rattle.module_set.specs.Members.{Members, single}
use Rattle.relocation.specs.Relocation.{set_number}
use Rattle.registers.specs.declared.Registers.{Registers}
use Rattle.registers.specs.State.{state, state_words, registers_in}
use Rattle.load.specs.Loaded.{Loaded}
use Rattle.std.specs.Prelude.{Err, Ok}
use Rattle.load.specs.Load.{loaded_number, set_load}
use Rattle.run.specs.Answer.{Answer}
use Rattle.std.specs.Prelude.{Err, Ok}
use Rattle.run.specs.declared.Ended.{Ended as Ending}
use Rattle.run.specs.Run.{outcome_words, answer_number, set_run}
use Rattle.icode.specs.Interface.{laid}

-- The words of a state and of an outcome. Those over a set have one more, the module of the place; a record has only module 0.
abbrev pub record_state : ℕ
record_state = 6

abbrev pub record_outcome : ℕ
record_outcome = 3

abbrev pub set_state : ℕ
set_state = 7

abbrev pub set_outcome : ℕ
set_outcome = 4

abbrev pub placed_state : (words : ℕ) → Registers → (member : ℕ) → List ℕ
placed_state words q member = take words (state_words q ++ (member ∷ []))

abbrev pub placed_outcome : (words : ℕ) → Ending → List ℕ
placed_outcome words e = take words (outcome_words e ++ (e.member ∷ []))

-- The module of a state's words; a state that has no such word is one of module 0.
abbrev pub member_in : List ℕ → ℕ
member_in w = get_or w 6 0

pub record BenchLoaded : Type 0 where
  pub answer : ℕ
  pub copy : List ℕ
  pub memory : List ℕ
  pub state : List ℕ

abbrev pub loaded_as : (n : ℕ) (copy m w : List ℕ) → BenchLoaded
loaded_as n copy m w = record { answer = n; copy = copy; memory = m; state = w }

-- The registers at the start, in the main module; a refused load leaves the state.
abbrev pub ready_words : (words : ℕ) → Loaded → List ℕ
ready_words words (Err n) = []
ready_words words (Ok q) = placed_state words q 0

abbrev pub load_reply : (words : ℕ) → Loaded → (copy m w : List ℕ) → BenchLoaded
load_reply words a copy m w = loaded_as (loaded_number a) copy m (laid (ready_words words a) w)

-- The set's numbers; then 8, for a state of another length too.
unfoldable pub bench_load : (words : ℕ) → Members → (parameters copy m s w : List ℕ) → BenchLoaded
bench_load words S parameters copy m s w =
    let L = set_load S parameters copy m s in
    cond (eqb (set_number S) 0)
    (cond (eqb (length w) words) (load_reply words L.answer L.copy L.memory w) (loaded_as 8 copy m w))
    (loaded_as (set_number S) copy m w)

abbrev pub record_load : (r parameters m s w : List ℕ) → BenchLoaded
record_load r parameters m s w = bench_load record_state (single r []) parameters (code_of r) m s w

pub record BenchRan : Type 0 where
  pub answer : ℕ
  pub memory : List ℕ
  pub stack : List ℕ
  pub state : List ℕ
  pub outcome : List ℕ

abbrev pub ran_as : (n : ℕ) (m s w o : List ℕ) → BenchRan
ran_as n m s w o = record { answer = n; memory = m; stack = s; state = w; outcome = o }

-- The registers of an end and its module, and the outcome; a refused run leaves both.
abbrev pub end_state : (words : ℕ) → Answer → List ℕ
end_state words (Err n) = []
end_state words (Ok e) = placed_state words e.registers e.member

abbrev pub end_outcome : (words : ℕ) → Answer → List ℕ
end_outcome words (Err n) = []
end_outcome words (Ok e) = placed_outcome words e

abbrev pub run_reply : (words places : ℕ) → Answer → (m s w o : List ℕ) → BenchRan
run_reply words places a m s w o = ran_as (answer_number a) m s (laid (end_state words a) w) (laid (end_outcome places a) o)

-- The set's numbers; then 24, for a state of another length too, and where the outcome has no length that is taken.
unfoldable pub bench_run : (words places : ℕ) (taken : Bool) → Members → (copy : List ℕ) (budget : ℕ) (m s w o : List ℕ) → BenchRan
bench_run words places taken S copy budget m s w o =
    let a = set_run S copy budget (member_in w) (state (registers_in w) m s) in
    cond (eqb (set_number S) 0)
    (cond (eqb (length w) words && taken) (run_reply words places a.answer a.state.memory a.state.stack w o)
    (ran_as 24 m s w o))
    (ran_as (set_number S) m s w o)

-- Which outcomes are taken: that of a set may be longer, and stays past the writing.
abbrev pub record_taken : List ℕ → Bool
record_taken o = eqb (length o) record_outcome

abbrev pub set_taken : List ℕ → Bool
set_taken o = leb set_outcome (length o)

abbrev pub bench_set_run : Members → (copy : List ℕ) (budget : ℕ) (m s w o : List ℕ) → BenchRan
bench_set_run S copy budget m s w o = bench_run set_state set_outcome (set_taken o) S copy budget m s w o

abbrev pub record_run : (r : List ℕ) (budget : ℕ) (m s w o : List ℕ) → BenchRan
record_run r budget m s w o =
    bench_run record_state record_outcome (record_taken o) (single r []) (code_of r) budget m s w o
