-- The invariant of a run of accepted code, and the statements that its proof is made of.
use mathlib.Core.Bool.{false}
use mathlib.Core.List.{List, [], ◌∷◌}
use mathlib.Core.Option.{some}
use mathlib.Core.Path.{◌≡◌}
use Prim.Native.Nat.{ℕ, ◌≤◌, ◌<◌, ◌+◌}
use lib.ListN.{length, get_or}
use Rattle.entries.specs.Entries.{entry_at, entry_count}
use Rattle.operate.specs.Traps.{DataTrap}
use Rattle.opcode.specs.Decode.{decode_at}
use Rattle.std.specs.Prelude.{Ok}
use Rattle.opcode.specs.declared.instruction.Instruction.{Instruction}
use Rattle.shape.specs.Shape.{shape_of, finds, needed}
use Rattle.shape.specs.declared.Shape.{Shape}
use Rattle.shape.specs.declared.Shape.TheVariants as shape
use Rattle.shape.specs.Linkage.{Linkage, inside, calling, calling_external, entering, returning, linkage_of}
use Rattle.registers.specs.Memory.{read, negated}
use Rattle.registers.specs.Modules.{Modules, module_at, globals_start, frames_start}
use Rattle.registers.specs.Program.{Program, program, running as runningProgram}
use Rattle.registers.specs.declared.Attributes.{Attributes}
use Rattle.registers.specs.declared.Registers.{Registers}
use Rattle.stackmap.specs.Slots.{Slot, push_words}
use Rattle.stackmap.specs.Ways.{Subject, Way, results_in, ways}
use Rattle.stackmap.specs.StackMap.{Reached, Among}
use Rattle.step.specs.declared.Outcome.{Outcome}
use Rattle.step.specs.declared.Outcome.TheVariants.{Went, Finished, Trapped}
use Rattle.registers.specs.Changes.{returned}
use Rattle.step.specs.Step.{After, code_after, step_of}
use Rattle.step.specs.Ready.{Ready}
use Rattle.execute.proofs.Acts.{lacks}
use Rattle.invariant.specs.Active.{Call, Subjects, running_member, running, share_of, Configuration, calls_decoded}
use Rattle.invariant.specs.Shares.{Holds, SameFrom, other}
use Rattle.numbers.specs.TrapNumber.{trap_number}

abbrev pub registers_of : Configuration → Registers
registers_of c = c.state.registers

-- What runs besides the code under check: the attributes of its module, and all modules.
pub record Setting : Type 0 where
  pub attributes : Attributes
  pub modules : Modules

abbrev pub program_in : Subject → Setting → Program
program_in U E = program U.code E.attributes E.modules

abbrev pub step_in : Subject → Setting → Configuration → After
step_in U E c = step_of (program_in U E) c.state

-- The active calls after a step of the code under check.
abbrev pub calls_in : Subjects → Subject → Configuration → List Call
calls_in Us U c = calls_decoded Us (registers_of c) c.calls (decode_at U.code (length U.code) (registers_of c).pc)

-- A place that a return word may hold: above 0 as a signed number, and its negation is not.
abbrev pub Returns : ℕ → Type 0
Returns place = (0 < place) × (place < 0x8000_0000)

-- The frames of the active calls, from FP down to where frames begin: each call's link words as it wrote them, two of a call within its
-- module, three of one from another.
pub data Framed (Ms : Modules) (m : List ℕ) : ℕ → List Call → Type 0 where
  no-frame : {fp : ℕ} → fp ≡ frames_start Ms → Framed Ms m fp []
  local_frame : {fp saved : ℕ} {c : Call} {calls : List Call} → c.member ≡ running_member calls → fp ≡ c.link + 2
      → c.words ≡ saved ∷ c.back ∷ [] → Returns c.back → read m c.link ≡ saved → read m (c.link + 1) ≡ c.back
      → Framed Ms m saved calls → Framed Ms m fp (c ∷ calls)
  external-frame : {fp saved : ℕ} {c : Call} {calls : List Call} → fp ≡ c.link + 3
      → c.words ≡ globals_start Ms (running_member calls) ∷ saved ∷ negated c.back ∷ [] → Returns c.back
      → read m c.link ≡ globals_start Ms (running_member calls) → read m (c.link + 1) ≡ saved
      → read m (c.link + 2) ≡ negated c.back → Framed Ms m saved calls → Framed Ms m fp (c ∷ calls)

-- What each active call's caller has on its share of the stack, under the callee's, and finds when it goes on.
pub data Suspended (Us : Subjects) (count : ℕ) (s : List ℕ) : List Call → Type 0 where
  no-caller : Suspended Us count s []
  a-caller : {c : Call} {calls : List Call} (l : List Slot)
      → Reached (Us (running_member calls)) (running calls) c.back
      (push_words (results_in (Us c.member).results c.procedure) l)
      → c.share ≡ share_of calls + length l → Holds (Us (running_member calls)).code s (share_of calls) l
      → c.member < count → c.procedure < entry_count (Us c.member).code
      → Suspended Us count s calls → Suspended Us count s (c ∷ calls)

-- Where control is: the running module and procedure, the slots that its picture has there and its share holds, and its callers.
pub record Placed (Ms : Modules) (Us : Subjects) (calls : List Call) (q : Registers) (s : List ℕ) : Type 0 where
  pub member : running_member calls < length Ms
  pub global : q.gp ≡ globals_start Ms (running_member calls)
  pub procedure : running calls < entry_count (Us (running_member calls)).code
  pub slots : List Slot
  pub reached : Reached (Us (running_member calls)) (running calls) q.pc slots
  pub height : q.height ≡ share_of calls + length slots
  pub holds : Holds (Us (running_member calls)).code s (share_of calls) slots
  pub suspended : Suspended Us (length Ms) s calls

-- The invariant.
pub record Inv (Ms : Modules) (Us : Subjects) (c : Configuration) : Type 0 where
  pub ready : Ready (runningProgram Ms (registers_of c).gp) c.state
  pub framed : Framed Ms c.state.memory (registers_of c).fp c.calls
  pub counted : length c.calls ≡ (registers_of c).calls
  pub placed : Placed Ms Us c.calls (registers_of c) c.state.stack

-- The instruction that a configuration is about to do.
pub record Doing (U : Subject) (c : Configuration) (i : Instruction) (next : ℕ) : Type 0 where
  pub decoded : decode_at U.code (length U.code) (registers_of c).pc ≡ Ok (i, next)

-- Part 1: a completed step keeps the frames in step with the active calls. A local call is one within the module that runs.
abbrev pub FramesKept : Type 0
FramesKept =
    (Us : Subjects) (U : Subject) (E : Setting) (c : Configuration) (i : Instruction) (next : ℕ) → Doing U c i next
    → Ready (program_in U E) c.state → (registers_of c).gp ≡ globals_start E.modules (running_member c.calls) → Returns next
    → Framed E.modules c.state.memory (registers_of c).fp c.calls
    → length c.calls ≡ (registers_of c).calls → (step_in U E c).outcome ≡ Went
    → Framed E.modules (step_in U E c).state.memory (step_in U E c).state.registers.fp (calls_in Us U c)
    × (length (calls_in Us U c) ≡ (step_in U E c).state.registers.calls)

-- Part 2: a step whose words lie in the share reads and changes nothing below it.
pub record UnreadIn (P : Program) (c : Configuration) (s' : List ℕ) : Type 0 where
  pub same_outcome : (step_of P (other c s').state).outcome ≡ (step_of P c.state).outcome
  pub same_registers : (step_of P (other c s').state).state.registers ≡ (step_of P c.state).state.registers
  pub same_memory : (step_of P (other c s').state).state.memory ≡ (step_of P c.state).state.memory
  pub same_share : SameFrom (share_of c.calls) (step_of P c.state).state.stack (step_of P (other c s').state).state.stack
  pub keeps_size : length (step_of P (other c s').state).state.stack ≡ length s'
  pub keeps_own : (i : ℕ) → i < share_of c.calls → get_or (step_of P (other c s').state).state.stack i 0 ≡ get_or s' i 0

abbrev pub StepUnread : Type 0
StepUnread =
    (U : Subject) (E : Setting) (c : Configuration) (i : Instruction) (next : ℕ) → Doing U c i next
    → share_of c.calls + needed i ≤ (registers_of c).height → (s' : List ℕ) → SameFrom (share_of c.calls) c.state.stack s'
    → UnreadIn (program_in U E) c s'

-- Part 3: what a step does to the share, by the shape of its instruction.
-- Where control goes within the procedure: to one of the ways out, with its list on the share.
pub record Within (code : List ℕ) (c : Configuration) (out : List Way) (q : Registers) (s : List ℕ) : Type 0 where
  pub slots : List Slot
  pub among : Among q.pc slots out
  pub height : q.height ≡ share_of c.calls + length slots
  pub holds : Holds code s (share_of c.calls) slots
  pub stays : q.gp ≡ (registers_of c).gp

-- The stack and its height are left as they are.
pub record Untouched (c : Configuration) (q : Registers) (s : List ℕ) : Type 0 where
  pub same-height : q.height ≡ (registers_of c).height
  pub same-stack : s ≡ c.state.stack

-- A call goes to an entry of a module, a return to the place and the globals that its links say.
pub record CallsTo (c : Configuration) (q : Registers) (s : List ℕ) (gp entry : ℕ) : Type 0 where
  pub untouched : Untouched c q s
  pub place : q.pc ≡ entry
  pub global : q.gp ≡ gp

abbrev pub Moves : Modules → Subject → Configuration → List Way → Registers → List ℕ → Linkage → Type 0
Moves Ms U c out q s inside = Within U.code c out q s
Moves Ms U c out q s (calling p) = CallsTo c q s (registers_of c).gp (entry_at U.code p)
Moves Ms U c out q s (calling_external k p) = CallsTo c q s (globals_start Ms k) (entry_at (module_at Ms k).code p)
Moves Ms U c out q s (entering par) = Within U.code c out q s
Moves Ms U c out q s returning =
    let back = returned (registers_of c) c.state.memory in
    CallsTo c q s back.gp back.pc

-- What a step leaves, by its outcome: it moves, finishes, or traps on data.
abbrev pub Left : Modules → Subject → Configuration → List Way → Linkage → After → Outcome → Type 0
Left Ms U c out k a Went = Moves Ms U c out a.state.registers a.state.stack k
Left Ms U c out k a Finished = k ≡ returning
Left Ms U c out k a (Trapped t) = DataTrap (trap_number t)

abbrev pub Steps : Subject → Setting → Configuration → List Way → Linkage → Outcome → Type 0
Steps U E c out k o = Left E.modules U c out k (step_in U E c) o

-- Every way out lies in the code; and a procedure that can be called: there is one, and it begins in the code.
abbrev pub InCode : List ℕ → List Way → Type 0
InCode code out = (t : ℕ) (k : List Slot) → Among t k out → t < length code

abbrev pub Callable : List ℕ → ℕ → Type 0
Callable code d = (0 < d) × (d < entry_count code) × (entry_at code d < length code)

-- What the check says of the instruction: its library is there, and its callee.
pub record Sound (Ms : Modules) (code : List ℕ) (i : Instruction) : Type 0 where
  pub library : lacks Ms i ≡ false
  pub callable : (d : ℕ) → shape_of i ≡ shape.Call d → Callable code d
  pub external : (k d : ℕ) → shape_of i ≡ shape.CallExternal k d → Callable (module_at Ms k).code d

-- RTN of an active call goes back into the code.
abbrev pub ReturnsInside : Program → Configuration → Type 0
ReturnsInside P c =
    let back = returned (registers_of c) c.state.memory in
    0 < (registers_of c).calls → back.pc < length (code_after P back.gp)

abbrev pub SlotsKept : Type 0
SlotsKept =
    (U : Subject) (E : Setting) (c : Configuration) (i : Instruction) (next p : ℕ) (l : List Slot) (out : List Way)
    → Doing U c i next
    → Ready (program_in U E) c.state
    → (registers_of c).height ≡ share_of c.calls + length l → Holds U.code c.state.stack (share_of c.calls) l
    → ways U p (registers_of c).pc next (shape_of i) l ≡ some out → InCode U.code out → Sound E.modules U.code i
    → (shape_of i ≡ shape.Rtn → ReturnsInside (program_in U E) c)
    → Steps U E c out (linkage_of (shape_of i)) (step_in U E c).outcome

-- An instruction of a shape finds its words in the share.
abbrev pub FindsWords : Type 0
FindsWords =
    (U : Subject) (p at next : ℕ) (s : Shape) (l : List Slot) (out : List Way) → ways U p at next s l ≡ some out
    → finds s ≤ length l
