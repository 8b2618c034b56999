-- What demand 3 speaks of. The letter: "Take any record that the check accepts and load it fresh, with any parameters, memory
-- and stack that the loader takes; run it from there". 01: "Check, load and run get the same record; the run gets the load's
-- memory and stack and all else it answered or wrote, as left, and nothing else writes these before its end." 02, K1: "in 3 all are
-- accepted, every check, the load and the run get the same modules in the same order with the same SIDs, and every check the same
-- results lists".
use Rattle.std.specs.Prelude.{List, ◌≡◌, ℕ, ◌+◌, length}
use Rattle.module_set.specs.Members.{Members}
use Rattle.registers.specs.declared.Registers.{Registers}
use Rattle.registers.specs.Modules.{Modules}
use Rattle.registers.specs.State.{State, state}
use Rattle.std.specs.Prelude.{Ok}
use Rattle.load.specs.Modules.{modules_of}
use Rattle.load.specs.Load.{Loading, set_load}
use Rattle.stackmap.specs.Slots.{Slot}
use Rattle.stackmap.specs.StackMap.{Reached}
use Rattle.verifier.specs.Exact.{Ruled, subject, AllBytes, Shows}
use Rattle.invariant.specs.Active.{Subjects, Configuration, Visits, running_member, running, share_of}
use Rattle.invariant.specs.Shares.{Holds}
use Rattle.safety.specs.Demand3.{loaded_configuration, spaces_left, AllAccepted}

-- A set whose modules the check accepted, each in its workspace, loaded fresh; `ruled` is any way in which it meets the rules up to 14.
pub record Fresh : Type 0 where
  pub members : Members
  pub spaces : ℕ → List ℕ
  pub parameters : List ℕ
  pub copy : List ℕ
  pub memory : List ℕ
  pub stack : List ℕ
  pub registers : Registers
  pub are_bytes : AllBytes members
  pub accepted : AllAccepted members spaces
  pub loaded : (set_load members parameters copy memory stack).answer ≡ Ok registers
  pub ruled : Ruled members

abbrev pub modules_in : Fresh → Modules
modules_in F = modules_of F.members

-- The modules under check.
abbrev pub subjects_in : Fresh → Subjects
subjects_in F = subject F.members F.ruled

-- "the check's workspace, as the check left it", each module's.
abbrev pub workspaces_left : Fresh → ℕ → List ℕ
workspaces_left F = spaces_left F.members F.spaces

-- What the load left, the state that was loaded, and the run's configuration there, with no call active.
abbrev pub load_left : Fresh → Loading
load_left F = set_load F.members F.parameters F.copy F.memory F.stack

abbrev pub loaded_state : Fresh → State
loaded_state F = state F.registers (load_left F).memory F.stack

abbrev pub first_of : Fresh → Configuration
first_of F = loaded_configuration (loaded_state F)

-- "After every number of its steps, from none to the last": what a run comes to after n steps.
abbrev pub ComesTo : (F : Fresh) (n : ℕ) → Configuration → Type 0
ComesTo F n c = Visits (modules_in F) (subjects_in F) (first_of F) n c

-- The running procedure's picture, in its module, has a list of slots at the place. 01: "the picture is that of just the instructions
-- reached from the entry".
abbrev pub Pictured : (F : Fresh) → Configuration → List Slot → Type 0
Pictured F c slots = Reached (subjects_in F (running_member c.calls)) (running c.calls) c.state.registers.pc slots

-- The share has the height and the labels of a list of slots, and the module's workspace shows its height and topmost label.
pub record Shared (F : Fresh) (c : Configuration) (slots : List Slot) : Type 0 where
  pub height : c.state.registers.height ≡ share_of c.calls + length slots
  pub labels : Holds (subjects_in F (running_member c.calls)).code c.state.stack (share_of c.calls) slots
  pub shown : Shows (workspaces_left F (running_member c.calls)) c.state.registers.pc slots
