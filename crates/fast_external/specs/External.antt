-- A step that completes, in whichever module it goes on, with these registers, memory and stack; or nothing, which leaves memory
-- and stack. No rule: the general step has them.
use Rattle.std.specs.Prelude.{◌≡◌, List, ℕ, Option, Some, None}
use Rattle.registers.specs.declared.Registers.{Registers}
use Rattle.registers.specs.Program.{Program}
use Rattle.registers.specs.State.{State, state}
use Rattle.step.specs.declared.Outcome.TheVariants.{Went}
use Rattle.step.specs.Step.{after, step_of}

abbrev pub Passed : Option Registers → Program → State → (m s : List ℕ) → Type 0
Passed (Some q) P S m s = step_of P S ≡ after Went (state q m s)
Passed None P S m s = (m ≡ S.memory) × (s ≡ S.stack)
