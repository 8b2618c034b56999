-- A step tried at once was completed, or memory and stack are as they were.
use mathlib.Core.Path.{◌≡◌}
use mathlib.Core.List.{List}
use Prim.Native.Nat.{ℕ}
use Rattle.std.specs.Prelude.{Option, Some, None}
use Rattle.registers.specs.declared.Registers.{Registers}
use Rattle.registers.specs.Program.{Program}
use Rattle.registers.specs.State.{State, state}
use Rattle.step.specs.declared.Outcome.TheVariants.{Went}
use Rattle.step.specs.Step.{after, step_of}
use Rattle.fast_external.specs.External.{Passed}

pub passed : (t : Option Registers) (P : Program) (S : State) (m s : List ℕ) (q : Registers) → t ≡ Some q → Passed t P S m s
    → step_of P S ≡ after Went (state q m s)
passed t P S m s q is e = rw is at e

pub stayed : (t : Option Registers) (P : Program) (q : Registers) (m s m' s' : List ℕ) → t ≡ None → Passed t P (state q m s) m' s'
    → state q m' s' ≡ state q m s
stayed t P q m s m' s' is e =
    let kept : (m' ≡ m) × (s' ≡ s) = rw is at e in
    rw (kept.0, kept.1)
