-- A step keeps the sizes of memory and stack: it stores words in their places and adds none, by the cases of what is written.
use mathlib.Core.List.{List, [], ◌∷◌}
use mathlib.Core.Path.{◌≡◌, refl}
use Prim.Native.Nat.{ℕ, ◌-◌}
use lib.ListN.{length}
use lib.Seq.{length-sets}
use Rattle.effect.specs.declared.effect.Write.{Write}
use Rattle.effect.specs.declared.effect.Write.TheVariants.{NoWrite, WriteOne, WriteTwo, WriteThree, WritePopped}
use Rattle.execute.specs.Execute.{top_words}
use Rattle.registers.specs.Program.{Program}
use Rattle.registers.specs.State.{State}
use Rattle.step.specs.Step.{pushed, written, step_of}
use Rattle.step.proofs.Outcomes.{step-leaves}

written-length : (m popped : List ℕ) (write : Write) → length (written m popped write) ≡ length m
written-length m popped NoWrite = refl
written-length m popped (WriteOne a x) = length-sets m a (x ∷ [])
written-length m popped (WriteTwo a x y) = length-sets m a (x ∷ y ∷ [])
written-length m popped (WriteThree a x y z) = length-sets m a (x ∷ y ∷ z ∷ [])
written-length m popped (WritePopped a) = length-sets m a popped

module _ (P : Program) (S : State) where
  pub memory_kept : length (step_of P S).state.memory ≡ length S.memory
  memory_kept =
      step-leaves P S (λ a. length a.state.memory ≡ length S.memory) (λ e. Unit {0}) (λ o n. refl)
      (λ pops push write q e room. written-length S.memory (top_words pops S.registers.height S.stack) write)
      (λ i next d. tt)

  pub stack-kept : length (step_of P S).state.stack ≡ length S.stack
  stack-kept =
      step-leaves P S (λ a. length a.state.stack ≡ length S.stack) (λ e. Unit {0}) (λ o n. refl)
      (λ pops push write q e room. length-sets S.stack (S.registers.height - pops) (pushed push)) (λ i next d. tt)
