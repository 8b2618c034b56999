-- What a function of operations did is a step, wherever its code byte stands: it reads neither code nor memory.
use Rattle.std.specs.Prelude.{◌≡◌, Bool, true, List, ℕ, ◌+◌, ◌<◌, length}
use Rattle.words.specs.Bytes.{byte_at}
use Rattle.registers.specs.declared.Attributes.{Attributes}
use Rattle.registers.specs.declared.Registers.{Registers}
use Rattle.registers.specs.Program.{program}
use Rattle.state.specs.Fits.{bounded}
use Rattle.fast.specs.Fast.{Spot, state_at, Did}

-- In every program where b and another byte stand at the place, and every state within its bounds.
abbrev pub DoesByte : Bool → (b : ℕ) (T T' : Spot) → Type 0
DoesByte done b T T' =
    (code : List ℕ) (A : Attributes) (q : Registers) → T.pc + 1 < length code → b ≡ byte_at code T.pc
    → bounded A (state_at q T) ≡ true → Did done (program code A) q T T'
