-- Which numbers reading, check, load and run hand back. 01: "Load makes tests 1 to 8, check 1 to 15, .., run 1 to 7 and then 24."
-- 02, K1: 17 and 18 stand after 7.
use Rattle.std.specs.Prelude.{List, ◌⊎◌, ◌≡◌, ℕ, ◌≤◌}
use Rattle.record.specs.Number.{reading_number, reading_of}
use Rattle.module_set.specs.Members.{Members}
use Rattle.registers.specs.Program.{Program}
use Rattle.registers.specs.State.{State}
use Rattle.operate.specs.Traps.{DataTrap}
use Rattle.step.specs.declared.Outcome.TheVariants.{Trapped}
use Rattle.step.specs.Step.{step_of}
use Rattle.std.specs.Prelude.{Err}
use Rattle.load.specs.Load.{set_load}
use Rattle.std.specs.Prelude.{Err}
use Rattle.run.specs.Run.{set_run}
use Rattle.verifier.specs.Check.{set_check}
use Rattle.numbers.specs.declared.Trap.{Trap}
use Rattle.numbers.specs.TrapNumber.{trap_number}

abbrev pub ReadingNumbers : Type 0
ReadingNumbers = (r : List ℕ) → reading_number (reading_of r) ≤ 7

-- 1 up to a number, 17, or 18.
abbrev pub UpTo : (most : ℕ) → ℕ → Type 0
UpTo most n = ((1 ≤ n) × (n ≤ most)) ⊎ ((n ≡ 17) ⊎ (n ≡ 18))

abbrev pub CheckNumbers : Type 0
CheckNumbers = (S : Members) (own : ℕ) (w : List ℕ) → ((set_check S own w).number ≡ 0) ⊎ UpTo 15 (set_check S own w).number

abbrev pub LoadNumbers : Type 0
LoadNumbers =
    (S : Members) (parameters copy m s : List ℕ) (n : ℕ) → (set_load S parameters copy m s).answer ≡ Err n → UpTo 8 n

abbrev pub RunNumbers : Type 0
RunNumbers =
    (S : Members) (copy : List ℕ) (budget k : ℕ) (T : State) (n : ℕ) → (set_run S copy budget k T).answer ≡ Err n
    → UpTo 7 n ⊎ (n ≡ 24)

-- "20, 21, 22, 23 | code traps: unserved; offset or bytes outside the code; too few stack words; no such callee, 0 included".
-- 02, K1: "Trap 23 also means no such library, 0 included."
pub record CodeTrap (n : ℕ) : Type 0 where
  pub lowest : 20 ≤ n
  pub highest : n ≤ 23

abbrev pub StepTraps : Type 0
StepTraps =
    (P : Program) (T : State) (t : Trap) → (step_of P T).outcome ≡ Trapped t
    → CodeTrap (trap_number t) ⊎ DataTrap (trap_number t)
