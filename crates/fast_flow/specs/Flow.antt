-- What a function of flow did is a step: of an instruction or of a code, wherever it stands, or NEXT's with its sum.
use Rattle.std.specs.Prelude.{◌≡◌, Bool, true, List, ℕ, ◌-◌, length}
use Rattle.words.specs.Bytes.{byte_at}
use Rattle.opcode.specs.declared.instruction.Instruction.{Instruction}
use Rattle.opcode.specs.declared.instruction.Instruction.TheVariants.{Next}
use Rattle.registers.specs.declared.Attributes.{Attributes}
use Rattle.registers.specs.declared.Registers.{Registers}
use Rattle.registers.specs.Modules.{Modules}
use Rattle.registers.specs.Program.{program}
use Rattle.registers.specs.Memory.{read}
use Rattle.control.specs.Control.{round_effect}
use Rattle.execute.specs.Execute.{executed}
use Rattle.state.specs.Fits.{bounded}
use Rattle.step.specs.Ready.{Ready}
use Rattle.fast.specs.Fast.{Spot, state_at, Decodes, Did}

-- In every program of this size where i is decoded there.
abbrev pub Does : Bool → (size : ℕ) → Instruction → (next : ℕ) (T T' : Spot) → Type 0
Does b size i next T T' =
    (code : List ℕ) (A : Attributes) (q : Registers) → length code ≡ size → Decodes code T.pc i next
    → Did b (program code A) q T T'

-- In a program where k stands there, and every state within its bounds.
abbrev pub DoesIn : Bool → (code : List ℕ) → Attributes → (k : ℕ) (T T' : Spot) → Type 0
DoesIn b code A k T T' =
    (q : Registers) → bounded A (state_at q T) ≡ true → byte_at code T.pc ≡ k → Did b (program code A) q T T'

-- In every program with this code.
abbrev pub DoesCode : Bool → (code : List ℕ) (k : ℕ) (T T' : Spot) → Type 0
DoesCode b code k T T' = (A : Attributes) → DoesIn b code A k T T'

-- NEXT with the sum x, to be stored at a, in every program of this size where it stands there.
abbrev pub DoesRound : Bool → (size next a x : ℕ) (T T' : Spot) → Type 0
DoesRound b size next a x T T' =
    (code : List ℕ) (A : Attributes) (q : Registers) → length code ≡ size → Decodes code T.pc Next next
    → ((Ms : Modules) → Ready (program code A Ms) (state_at q T) → executed (program code A Ms) (state_at q T) next Next
    ≡ round_effect (state_at q T).registers next a (read T.stack (T.height - 3)) (read T.stack (T.height - 2))
    (read T.stack (T.height - 1)) x)
    → Did b (program code A) q T T'
