-- When a step completes: by the instruction at the place and its effect, which goes on to a place within the code.
use mathlib.Core.Path.{◌≡◌, ◌∙◌}
use mathlib.Core.Bool.{Bool, true, false}
use Prim.Native.Nat.{ℕ, ◌+◌, ◌-◌, ◌≤◌, ◌<◌}
use lib.ListN.{length}
use lib.Seq.{sets}
use borrow.Author.Tests.{lt-ltb, le-ltb, eq-eqb}
use Rattle.opcode.specs.Decode.{decode_at}
use Rattle.std.specs.Prelude.{Ok}
use Rattle.opcode.specs.declared.instruction.Instruction.{Instruction}
use Rattle.shape.specs.Shape.{needed}
use Rattle.effect.specs.declared.effect.Push.{Push}
use Rattle.effect.specs.declared.effect.Write.{Write}
use Rattle.effect.specs.declared.effect.Effect.TheVariants.{Go}
use Rattle.effect.specs.Data.{pushes}
use Rattle.registers.specs.declared.Registers.{Registers}
use Rattle.registers.specs.Modules.{Modules}
use Rattle.registers.specs.Program.{Program}
use Rattle.registers.specs.State.{State}
use Rattle.registers.specs.Changes.{moved}
use Rattle.execute.specs.Execute.{top_words, executed}
use Rattle.step.specs.declared.Outcome.TheVariants.{Went}
use Rattle.step.specs.Step.{after, applied, written, pushed, apply, perform, step_of}
use Rattle.step.specs.Ready.{Ready}
use Rattle.fast.specs.Fast.{Spot, state_at, Became, Did}

-- Where the instruction's words are there and its effect has room and a place within the code, the effect is carried out.
pub went : (P : Program) (S : State) (i : Instruction) (next pops : ℕ) (push : Push) (write : Write) (q : Registers)
    → decode_at P.code (length P.code) S.registers.pc ≡ Ok (i, next) → needed i ≤ S.registers.height
    → executed P S next i ≡ Go pops push write q → S.registers.height - pops + pushes push ≤ length S.stack
    → q.gp ≡ P.attributes.globals → q.pc < length P.code → step_of P S ≡ after Went (applied S pops push write q)
unfolding step_of perform apply
went P S i next pops push write q d enough e room stays inside =
    rw (
      d,
      le-ltb S.registers.height (needed i) enough,
      e,
      le-ltb (length S.stack) (S.registers.height - pops + pushes push) room,
      eq-eqb q.gp P.attributes.globals stays,
      lt-ltb q.pc (length P.code) inside,
    )

-- The same of a spot: the registers but for place and height stay.
pub goes : (P : Program) (q : Registers) (T N : Spot) (i : Instruction) (next pops : ℕ) (push : Push) (write : Write)
    → decode_at P.code (length P.code) T.pc ≡ Ok (i, next) → needed i ≤ T.height
    → executed P (state_at q T) next i ≡ Go pops push write (moved (state_at q T).registers N.pc)
    → T.height - pops + pushes push ≤ length T.stack → q.gp ≡ P.attributes.globals → N.pc < length P.code
    → N.height ≡ T.height - pops + pushes push → N.memory ≡ written T.memory (top_words pops T.height T.stack) write
    → N.stack ≡ sets T.stack (T.height - pops) (pushed push)
    → (N.pc < length P.code) × (step_of P (state_at q T) ≡ after Went (state_at q N))
goes P q T N i next pops push write d enough e room stays inside h m s = (
  inside,
  went P (state_at q T) i next pops push write (moved (state_at q T).registers N.pc) d enough e room stays inside ∙ rw
      (h, m, s),
)

-- From what a function did to a step.
pub did : (b : Bool) (L : Modules → Program) (q : Registers) (C : Type 0) (T N T' : Spot)
    → ((Ms : Modules) → Ready (L Ms) (state_at q T) → C
    → (N.pc < length (L Ms).code) × (step_of (L Ms) (state_at q T) ≡ after Went (state_at q N))) → Became b C T N T'
    → Did b L q T T'
did true L q C T N T' g (c, e) = λ Ms R. rw e (g Ms R c)
did false L q C T N T' g e = λ Ms R. rw e
