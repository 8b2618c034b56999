-- A trapped step hands everything back; a completed one stores the pushed words alone, which end at the new height, and keeps a
-- state that fits, in the module that GP then names.
use mathlib.Core.Path.{◌≡◌, refl}
use Prim.Native.Nat.{ℕ, ◌-◌, ◌≤◌}
use native.Mathlib.Omega.{arith}
use lib.ListN.{length, get_or}
use Rattle.words.proofs.Sets.{sets-other}
use Rattle.effect.specs.declared.effect.Push.{Push}
use Rattle.effect.specs.declared.effect.Push.TheVariants.{NoPush, PushOne, PushTwo}
use Rattle.effect.specs.Data.{pushes}
use Rattle.registers.specs.Program.{running}
use Rattle.load.specs.Modules.{modules_of}
use Rattle.step.specs.Step.{pushed, step_of}
use Rattle.step.proofs.Outcomes.{step-leaves, step-stops}
use Rattle.step.proofs.Preservation.{step-holds}
use Rattle.invariant.proofs.Sizes.{memory_kept, stack-kept}
use Rattle.run.proofs.Taking.{taken-parts, taken-ready, ready-back}
use Rattle.guarantees.specs.Guarantees.{TrappedStep, WritesBelowHeight, StaysFit, KeepsProtected}

pushed-length : (p : Push) → length (pushed p) ≡ pushes p
pushed-length NoPush = refl
pushed-length (PushOne x) = refl
pushed-length (PushTwo x y) = refl

pub trapped_step : TrappedStep
trapped_step P T t e = step-stops P T (λ w. let z : ◌≡◌ {A = ℕ} 0 1 = cc in omega arith)

pub writes-below-height : WritesBelowHeight
writes-below-height P T = (
  stack-kept P T,
  step-leaves P T
      (λ a. (i : ℕ) → a.state.registers.height ≤ i → get_or a.state.stack i 0 ≡ get_or T.stack i 0) (λ e. Unit {0})
      (λ o n i h. refl)
      (λ pops push write q e room i h.
      sets-other T.stack (T.registers.height - pops) (pushed push) i (λ low high. omega (arith, pushed-length push, h)))
      (λ i next d. tt),
)

pub stays_fit : StaysFit
stays_fit S copy k T e =
    let t = taken-parts S copy k T e in
    let P = running (modules_of S) T.registers.gp in
    ready-back S copy (step_of P T).state t.sound t.copied (step-holds P T (taken-ready S copy k T e)).ready

pub keeps-protected : KeepsProtected
keeps-protected S copy k T e =
    let P = running (modules_of S) T.registers.gp in
    (memory_kept P T, (step-holds P T (taken-ready S copy k T e)).spared)
