-- From an effect to its step: an effect that traps on data, finishes rightly, or goes to a place in the code and leaves the
-- registers and the stack as they must be, is carried out so. Carrying it out adds the trap 36, and 21 for a place outside
-- the code.
use mathlib.Core.List.{List}
use mathlib.Core.Path.{◌≡◌, refl, sym, subst}
use Prim.Native.Nat.{ℕ, ◌+◌, ◌-◌, ◌≤◌, ◌<◌}
use native.Mathlib.Omega.{arith}
use lib.Dec.{ltb}
use lib.ListN.{length}
use lib.Seq.{sets}
use borrow.Author.Tests.{ltb-true, ltb-false, lt-ltb}
use Rattle.words.proofs.Tests.{by-test}
use Rattle.opcode.specs.Decode.{Decoded}
use Rattle.opcode.specs.declared.instruction.Instruction.{Instruction}
use Rattle.operate.specs.Traps.{DataTrap}
use Rattle.operate.proofs.Traps.{data-number}
use Rattle.shape.specs.Shape.{needed}
use Rattle.shape.specs.Linkage.{Linkage, returning}
use Rattle.effect.specs.declared.effect.Effect.{Effect}
use Rattle.effect.specs.declared.effect.Effect.TheVariants.{Trap, Finish, Go}
use Rattle.effect.specs.declared.effect.Push.{Push}
use Rattle.effect.specs.declared.effect.Write.{Write}
use Rattle.effect.specs.Data.{pushes}
use Rattle.registers.specs.Program.{Program}
use Rattle.registers.specs.declared.Registers.{Registers}
use Rattle.registers.specs.Changes.{raised}
use Rattle.execute.specs.Execute.{executed}
use Rattle.stackmap.specs.Ways.{Subject, Way}
use Rattle.step.specs.Step.{code_after, After, pushed, apply, perform, step_of}
use Rattle.invariant.specs.Active.{Configuration}
use Rattle.invariant.proofs.Invariant.{Setting, registers_of, program_in, step_in, Doing, Moves, Left, Steps}
use Rattle.numbers.specs.declared.Trap.{Trap as Cause}
use Rattle.numbers.specs.TrapNumber.{trap_number}

-- An effect from a configuration: Done where it finishes, Then of the registers and the stack where it goes on.
pub data Good (P : Program) (c : Configuration) (Done : Type 0) (Then : Registers → List ℕ → Type 0) : Effect → Type 0 where
  good-trap : {t : Cause} → DataTrap (trap_number t) → Good P c Done Then (Trap t)
  good-finish : Done → Good P c Done Then Finish
  good-go : {pops : ℕ} {push : Push} {write : Write} {q : Registers} → q.pc < length (code_after P q.gp)
      → ((registers_of c).height - pops + pushes push ≤ length c.state.stack
      → Then (raised q ((registers_of c).height - pops + pushes push)) (sets c.state.stack ((registers_of c).height - pops)
      (pushed push)))
      → Good P c Done Then (Go pops push write q)

module _ (U : Subject) (E : Setting) (c : Configuration) (out : List Way) (k : Linkage) where
  abbrev Leaves : After → Type 0
  Leaves a = Left E.modules U c out k a a.outcome

  abbrev pub Goes : Effect → Type 0
  Goes e = Good (program_in U E) c (k ≡ returning) (λ q s. Moves E.modules U c out q s k) e

  apply-leaves : (e : Effect) → Goes e → Leaves (apply (program_in U E) c.state e)
  unfolding apply
  apply-leaves (Trap t) (good-trap d) = d
  apply-leaves Finish (good-finish d) = d
  apply-leaves (Go pops push write q) (good-go l h) =
      let height : ℕ = (registers_of c).height - pops + pushes push in
      by-test Leaves (ltb (length c.state.stack) height) _ _ (λ t. data-number 36 refl refl)
      (λ t. rw (lt-ltb q.pc (length (code_after (program_in U E) q.gp)) l) (h (ltb-false (length c.state.stack) height t)))

  -- The words that the instruction needs are there, so that the step is its effect carried out.
  pub good-steps : (i : Instruction) (next : ℕ) → Doing U c i next → needed i ≤ (registers_of c).height
      → Goes (executed (program_in U E) c.state next i) → Steps U E c out k (step_in U E c).outcome
  unfolding step_of perform
  good-steps i next d enough h =
      subst (λ (x : Decoded). Leaves (perform (program_in U E) c.state x)) (sym d.decoded)
      (by-test Leaves (ltb (registers_of c).height (needed i)) _ _
      (λ t. absurd (omega (arith, ltb-true (registers_of c).height (needed i) t))) (λ t. apply-leaves _ h))
