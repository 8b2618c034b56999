-- Steps that complete, as the fast loop holds them: place, height, memory and stack go on, the other registers stay. Each function
-- answers whether it was done; where it was not, nothing was written. These are no rules: the general step has them.
use Rattle.std.specs.Prelude.{◌≡◌, Bool, true, false, not, ◌&&◌, ◌||◌, List, ℕ, suc, ◌-◌, ◌<◌, ◌≤◌, leb, ltb, length, Ok, Err}
use Rattle.opcode.specs.Decode.{decode_at}
use Rattle.opcode.specs.declared.instruction.Instruction.{Instruction}
use Rattle.registers.specs.declared.Attributes.{Attributes}
use Rattle.registers.specs.declared.Registers.{Registers}
use Rattle.registers.specs.Modules.{Modules}
use Rattle.registers.specs.Program.{Program}
use Rattle.registers.specs.Memory.{is_link}
use Rattle.registers.specs.State.{State, state}
use Rattle.registers.specs.Changes.{moved, raised}
use Rattle.step.specs.declared.Outcome.TheVariants.{Went}
use Rattle.step.specs.Step.{after, step_of}
use Rattle.step.specs.Ready.{Ready}
use Rattle.operate.specs.Value.{Value}

-- What a fast step changes.
pub record Spot : Type 0 where
  pub pc : ℕ
  pub height : ℕ
  pub memory : List ℕ
  pub stack : List ℕ

abbrev pub spot : (pc height : ℕ) (m s : List ℕ) → Spot
spot pc h m s = record { pc = pc; height = h; memory = m; stack = s }

abbrev pub state_at : Registers → Spot → State
state_at q T = state (raised (moved q T.pc) T.height) T.memory T.stack

-- The instruction at a place, and the place after it.
abbrev pub Decodes : (code : List ℕ) (pc : ℕ) → Instruction → (next : ℕ) → Type 0
Decodes code pc i next = decode_at code (length code) pc ≡ Ok (i, next)

-- Done: C holds, and N stands for T. Not done: T stays, and nothing is said of C.
abbrev pub Became : Bool → (C : Type 0) (T N T' : Spot) → Type 0
Became true C T N T' = C × (T' ≡ N)
Became false C T N T' = T' ≡ T

-- A step that completes within the code; or nothing.
abbrev pub Completed : Bool → Program → (S S' : State) → Type 0
Completed true P S S' = (S'.registers.pc < length P.code) × (step_of P S ≡ after Went S')
Completed false P S S' = S' ≡ S

-- The same in every set of modules where the program is ready: most steps look at no other module.
abbrev pub Completes : Bool → (Modules → Program) → (S S' : State) → Type 0
Completes b L S S' = (Ms : Modules) → Ready (L Ms) S → Completed b (L Ms) S S'

-- Where only place, height, memory and stack change.
abbrev pub Did : Bool → (Modules → Program) → Registers → (T T' : Spot) → Type 0
Did b L q T T' = Completes b L (state_at q T) (state_at q T')

-- So many steps that all completed, one after the other, with the program ready after each.
pub data Steps (P : Program) (S : State) : ℕ → State → Type 0 where
  none : Steps P S 0 S
  more : {n : ℕ} {S' S'' : State} → Steps P S n S' → step_of P S' ≡ after Went S'' → Ready P S'' → Steps P S (suc n) S''

-- What is reached with so much of a budget left: by steps that completed, in a state where the program is ready.
pub record Ahead (P : Program) (S : State) (budget left : ℕ) (S' : State) : Type 0 where
  pub most : left ≤ budget
  pub ready : Ready P S'
  pub steps : Steps P S (budget - left) S'

-- A word of the running frame, or a global of the running module: never protected.
abbrev pub plain : Attributes → (fp a : ℕ) → Bool
plain A fp a = leb fp a || (leb A.globals a && ltb a A.constants)

-- A word that is not protected, as far as the running module tells: such a word, or one of a frame that is no link.
abbrev pub free : Attributes → Registers → List ℕ → ℕ → Bool
free A q m a = plain A q.fp a || (leb A.frames a && not (is_link m q.fp q.calls a))

-- What an operation gives: a word, and which.
abbrev pub is_word : Value → Bool
is_word (Ok x) = true
is_word (Err t) = false

abbrev pub word_of : Value → ℕ
word_of (Ok x) = x
word_of (Err t) = 0
