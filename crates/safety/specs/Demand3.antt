-- Demand 3, as the letter words it: each clause of the letter is a field of `Ends` or `Safe`; the other fields say what it is about.
-- 01: "Demand 3 is a single claim about all states of a run, from the one loaded to the last".
use Rattle.std.specs.Prelude.{List, [], true, ◌≡◌, ℕ, ◌<◌, ◌+◌, length}
use Rattle.std.proofs.Math.Option.{some}
use Rattle.entries.specs.Entries.{entry_count}
use Rattle.registers.specs.Memory.{read}
use Rattle.registers.specs.Modules.{Modules, globals_start, is_fixed}
use Rattle.registers.specs.State.{State, state}
use Rattle.operate.specs.Traps.{DataTrap}
use Rattle.registers.specs.declared.Registers.{Registers}
use Rattle.stackmap.specs.Slots.{Slot}
use Rattle.stackmap.specs.StackMap.{Map, IsMap, Reached}
use Rattle.module_set.specs.Members.{Members}
use Rattle.verifier.specs.Check.{set_check}
use Rattle.verifier.specs.Exact.{Ruled, subject, AllBytes, Shows}
use Rattle.std.specs.Prelude.{Ok}
use Rattle.run.specs.declared.End.{End}
use Rattle.run.specs.declared.End.TheVariants.{Finished, Spent, Trapped}
use Rattle.load.specs.Modules.{modules_of}
use Rattle.load.specs.Load.{set_load}
use Rattle.run.specs.Run.{Result, ended, counted, Within, set_run}
use Rattle.invariant.specs.Active.{Subjects, running_member, running, share_of, Configuration, Visits}
use Rattle.invariant.specs.Shares.{Holds, Linked, SameFrom, Unread}
use Rattle.numbers.specs.TrapNumber.{trap_number}

-- "the run finishes, spends its budget, or ends in one of the nine data traps, never in one of the four code traps".
abbrev pub Proper : End → Type 0
Proper Finished = Unit {0}
Proper Spent = Unit {0}
Proper (Trapped t) = DataTrap (trap_number t)

-- What holds of each configuration: `spaces` are the modules' workspaces as their checks left them, S0 the state as loaded.
pub record Safe (Ms : Modules) (Us : Subjects) (spaces : ℕ → List ℕ) (S0 : State) (c : Configuration) : Type 0 where
  -- The place's module is one of the set's, and GP points at its globals.
  pub member : running_member c.calls < length Ms
  pub global : c.state.registers.gp ≡ globals_start Ms (running_member c.calls)
  -- 01: "The last active call's procedure is the running one; with none, procedure 0." It is one of the module's, and the active calls
  -- are as many as the machine counts.
  pub procedure : running c.calls < entry_count (Us (running_member c.calls)).code
  pub active : length c.calls ≡ c.state.registers.calls
  -- "the place is one that the running procedure's stack picture has": it is reached, and so every map of the procedure's
  -- region has just these slots there.
  pub slots : List Slot
  pub placed : Reached (Us (running_member c.calls)) (running c.calls) c.state.registers.pc slots
  pub pictured : (π : Map) → IsMap (Us (running_member c.calls)) (running c.calls) π
      → π c.state.registers.pc ≡ some slots
  -- "That procedure's share of the stack has exactly the height and labels of the picture there"
  pub height : c.state.registers.height ≡ share_of c.calls + length slots
  pub labels : Holds (Us (running_member c.calls)).code c.state.stack (share_of c.calls) slots
  -- "the check's workspace, as the check left it, shows that height and the topmost label"
  pub shown : Shows (spaces (running_member c.calls)) c.state.registers.pc slots
  -- "Header words and constants are as loaded", those of every module.
  pub fixed : (a : ℕ) → is_fixed 0 Ms a ≡ true → read c.state.memory a ≡ read S0.memory a
  -- Memory and stack keep their sizes.
  pub memory_size : length c.state.memory ≡ length S0.memory
  pub stack_size : length c.state.stack ≡ length S0.stack
  -- "each active call's link words are as that call wrote them"
  pub links : Linked c.state.memory c.calls
  -- "No step, a trapped one included, reads or changes a stack word below the share that it starts with": with the run's own stack for
  -- s', `keeps_own` says that it changes none.
  pub unread : (s' : List ℕ) → SameFrom (share_of c.calls) c.state.stack s' → Unread Ms c s'

-- A state that is loaded: no call is active.
abbrev pub loaded_configuration : State → Configuration
loaded_configuration S = record { state = S; calls = [] }

-- How a run of so many steps at most ends: in a configuration that it visits, properly, with "demand 2's steps and step count". The
-- finishing RTN counts, and leaves the state that it found.
abbrev pub ended_in : Modules → End → ℕ → Configuration → Result
ended_in Ms ending n c = ended Ms ending (counted ending n) c.state

pub record Ends (Ms : Modules) (Us : Subjects) (first : Configuration) (budget : ℕ) (run : Result) : Type 0 where
  pub steps : ℕ
  pub last : Configuration
  pub visited : Visits Ms Us first steps last
  pub ending : End
  pub proper : Proper ending
  pub within : Within ending steps budget
  pub ends : run ≡ ended_in Ms ending steps last

-- 01: "Check, load and run get the same record; the run gets the load's memory and stack and all else it answered or wrote, as left".
-- The letter: "Take any record that the check accepts and load it fresh, with any parameters, memory and stack that the loader takes;
-- run it from there, with demand 2's steps and step count and any step budget. .. After every number of its steps, from none to the
-- last, .." 02, K1: "in 3 all are accepted, every check, the load and the run get the same modules in the same order with the same SIDs,
-- and every check the same results lists".
pub record Demand3 (S : Members) (copy : List ℕ) (spaces : ℕ → List ℕ) (T : State) (Us : Subjects) : Type 0 where
  pub runs : (budget : ℕ) → Ends (modules_of S) Us (loaded_configuration T) budget (set_run S copy budget 0 T)
  pub safe : (n : ℕ) (c : Configuration) → Visits (modules_of S) Us (loaded_configuration T) n c
      → Safe (modules_of S) Us spaces T c

-- The workspaces as the checks of all modules left them.
abbrev pub spaces_left : Members → (ℕ → List ℕ) → ℕ → List ℕ
spaces_left S spaces k = (set_check S k (spaces k)).workspace

-- Every module's check accepts.
abbrev pub AllAccepted : Members → (ℕ → List ℕ) → Type 0
AllAccepted S spaces = (k : ℕ) → k < length S → (set_check S k (spaces k)).number ≡ 0

-- It holds for every way in which the set meets the rules up to 14; that it meets them is `AcceptsExactly` (verifier/specs/Exact).
abbrev pub Claim : Type 0
Claim =
    (S : Members) (spaces : ℕ → List ℕ) (parameters copy m s : List ℕ) (q : Registers) → AllBytes S → AllAccepted S spaces
    → (set_load S parameters copy m s).answer ≡ Ok q → (R : Ruled S)
    → let L = set_load S parameters copy m s in
    Demand3 S L.copy (spaces_left S spaces) (state q L.memory s) (subject S R)
