-- Where nothing is decoded, the trap of the number that `undecoded_trap` says is what the step ends in.
use mathlib.Core.Bool.{cond}
use mathlib.Core.Path.{◌≡◌, ◌∙◌, refl, ap}
use Prim.Native.Nat.{ℕ}
use lib.Dec.{eqb}
use Rattle.numbers.specs.TrapNumber.{trap_number}
use Rattle.numbers.specs.declared.Trap.{Trap}
use Rattle.numbers.specs.declared.Trap.TheVariants as cause
use Rattle.opcode.specs.Decode.{undecoded_trap}
use Rattle.opcode.specs.declared.DecodeError.{DecodeError}
use Rattle.opcode.specs.declared.DecodeError.TheVariants.{Unserved, Past}
use Rattle.registers.specs.Program.{Program}
use Rattle.registers.specs.State.{State}
use Rattle.step.specs.declared.Outcome.TheVariants.{Trapped}
use Rattle.step.specs.Step.{after, perform}
use Rattle.std.specs.Prelude.{Err}

abbrev by-number : Trap → ℕ → Trap
by-number t n = cond (eqb n 20) cause.Unserved (cond (eqb n 21) cause.Outside t)

named : (t : Trap) → t ≡ by-number t (trap_number t)
named cause.Unserved = refl
named cause.Outside = refl
named cause.TooFewWords = refl
named cause.Uncallable = refl
named cause.ZeroDivisor = refl
named cause.OutOfRange = refl
named cause.NotLive = refl
named cause.Protected = refl
named cause.NotBoolean = refl
named cause.MemoryFull = refl
named cause.StackFull = refl
named cause.CallsFull = refl
named cause.BelowFrame = refl

pub undecoded : (P : Program) (S : State) (e : DecodeError) (t : Trap) → trap_number t ≡ undecoded_trap e
    → after (Trapped t) S ≡ perform P S (Err e)
unfolding perform
undecoded P S Unserved t h =
    let same : t ≡ cause.Unserved = named t ∙ ap (by-number t) h in
    rw same refl
undecoded P S Past t h =
    let same : t ≡ cause.Outside = named t ∙ ap (by-number t) h in
    rw same refl
