-- What a step leaves: the state as it was, with an outcome that does not go on, or an effect carried out that there was room
-- for. So what holds of both holds of every step; by the cases of the definition.
use mathlib.Core.Path.{◌≡◌, refl}
use Prim.Native.Nat.{ℕ, ◌+◌, ◌-◌, ◌≤◌}
use native.Mathlib.Omega.{arith}
use lib.Dec.{ltb}
use lib.ListN.{length}
use borrow.Author.Tests.{ltb-false}
use Rattle.words.proofs.Tests.{either, by-test}
use Rattle.opcode.specs.Decode.{decode_at}
use Rattle.opcode.specs.Decode.{Decoded}
use Rattle.opcode.specs.declared.DecodeError.TheVariants.{Unserved, Past}
use Rattle.std.specs.Prelude.{Err, Ok}
use Rattle.opcode.specs.declared.instruction.Instruction.{Instruction}
use Rattle.shape.specs.Shape.{needed}
use Rattle.effect.specs.declared.effect.Push.{Push}
use Rattle.effect.specs.declared.effect.Write.{Write}
use Rattle.effect.specs.declared.effect.Effect.{Effect}
use Rattle.effect.specs.declared.effect.Effect.TheVariants.{Trap, Finish, Go}
use Rattle.effect.specs.Data.{pushes}
use Rattle.registers.specs.declared.Registers.{Registers}
use Rattle.registers.specs.Program.{Program}
use Rattle.registers.specs.State.{State}
use Rattle.execute.specs.Execute.{executed}
use Rattle.step.specs.declared.Outcome.{Outcome}
use Rattle.step.specs.declared.Outcome.TheVariants.{Went, Finished, Trapped}
use Rattle.step.specs.Step.{After, after, applied, code_after, apply, perform, step_of}
use Rattle.numbers.specs.declared.Trap.{Trap as Cause}
use Rattle.numbers.specs.declared.Trap.TheVariants as cause

-- Q holds of what a step leaves, where E holds of its effect.
module _ (P : Program) (S : State) (Q : After → Type 0) (E : Effect → Type 0)
    (kept : (o : Outcome) → (o ≡ Went → ⊥) → Q (after o S))
    (went : (pops : ℕ) (push : Push) (write : Write) (q : Registers) → E (Go pops push write q)
    → S.registers.height - pops + pushes push ≤ length S.stack → Q (after Went (applied S pops push write q))) where
  trapped : (t : Cause) → Q (after (Trapped t) S)
  trapped t = kept (Trapped t) (λ w. let z : ◌≡◌ {A = ℕ} 0 1 = cc in omega arith)

  apply-leaves : (e : Effect) → E e → Q (apply P S e)
  unfolding apply
  apply-leaves (Trap t) h = trapped t
  apply-leaves Finish h = kept Finished (λ w. let z : ◌≡◌ {A = ℕ} 0 1 = cc in omega arith)
  apply-leaves (Go pops push write q) h =
      let height : ℕ = S.registers.height - pops + pushes push in
      by-test Q (ltb (length S.stack) height) _ _ (λ t. trapped cause.StackFull)
      (λ t. either Q (ltb q.pc (length (code_after P q.gp))) _ _ (went pops push write q h (ltb-false (length S.stack) height t))
      (trapped cause.Outside))

  pub perform-leaves : (i : Instruction) (next : ℕ) → E (executed P S next i) → Q (perform P S (Ok (i, next)))
  unfolding perform
  perform-leaves i next h = either Q (ltb S.registers.height (needed i)) _ _ (trapped cause.TooFewWords) (apply-leaves _ h)

  pub step-leaves : ((i : Instruction) (next : ℕ) → decode_at P.code (length P.code) S.registers.pc ≡ Ok (i, next)
      → E (executed P S next i)) → Q (step_of P S)
  unfolding step_of perform
  step-leaves h = by (decode_at P.code (length P.code) S.registers.pc) refl
    where
      by : (d : Decoded) → decode_at P.code (length P.code) S.registers.pc ≡ d → Q (perform P S d)
      by (Err Unserved) e = trapped cause.Unserved
      by (Err Past) e = trapped cause.Outside
      by (Ok (i, next)) e = perform-leaves i next (h i next e)

-- A step that does not go on leaves the state as it was.
pub step-stops : (P : Program) (S : State) → ((step_of P S).outcome ≡ Went → ⊥) → (step_of P S).state ≡ S
step-stops P S =
    step-leaves P S (λ a. (a.outcome ≡ Went → ⊥) → a.state ≡ S) (λ e. Unit {0}) (λ o n h. refl)
    (λ pops push write q e room h. absurd (h refl)) (λ i next d. tt)
