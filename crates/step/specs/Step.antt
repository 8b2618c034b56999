-- A step. 01: "Within a step: first byte (21), code and mode (20), the other bytes (21), the number of stack words, then the
-- manual's lines in order, a read before its push. The next place is tested last: outside the code the step traps with 21."
-- A trapped step leaves the state as it was. Memory and stack are touched in `apply` alone.
use Rattle.std.specs.Prelude.{cond, List, [], ◌∷◌, ℕ, ◌+◌, ◌-◌, eqb, ltb, length}
use Rattle.std.proofs.lemmas.List.Edits.{sets}
use Rattle.opcode.specs.Decode.{decode_at}
use Rattle.opcode.specs.Decode.{Decoded}
use Rattle.opcode.specs.declared.DecodeError.TheVariants.{Unserved, Past}
use Rattle.std.specs.Prelude.{Err, Ok}
use Rattle.shape.specs.Shape.{needed}
use Rattle.effect.specs.declared.effect.Push.{Push}
use Rattle.effect.specs.declared.effect.Push.TheVariants.{NoPush, PushOne, PushTwo}
use Rattle.effect.specs.declared.effect.Write.{Write}
use Rattle.effect.specs.declared.effect.Write.TheVariants.{NoWrite, WriteOne, WriteTwo, WriteThree, WritePopped}
use Rattle.effect.specs.declared.effect.Effect.{Effect}
use Rattle.effect.specs.declared.effect.Effect.TheVariants.{Trap, Finish, Go}
use Rattle.effect.specs.Data.{pushes}
use Rattle.registers.specs.declared.Registers.{Registers}
use Rattle.registers.specs.Modules.{Modules}
use Rattle.registers.specs.Program.{Program, running}
use Rattle.registers.specs.State.{State, state}
use Rattle.registers.specs.Changes.{raised}
use Rattle.execute.specs.Execute.{top_words, executed}
use Rattle.step.specs.declared.Machine.{Machine}
use Rattle.step.specs.declared.Stepped.{Stepped}
use Rattle.step.specs.declared.Outcome.{Outcome}
use Rattle.step.specs.declared.Outcome.TheVariants.{Went, Finished, Trapped}
use Rattle.numbers.specs.declared.Trap.{Trap as Cause}
use Rattle.numbers.specs.declared.Trap.TheVariants as cause

-- How a step ended, and the state that it left.
pub record After : Type 0 where
  pub outcome : Outcome
  pub state : State

abbrev pub after : Outcome → State → After
after o S = record { outcome = o; state = S }

-- What the code hands back of a step, with the memory and the stack that it leaves.
abbrev pub left : Stepped → List ℕ → List ℕ → After
left r m s = after r.outcome (state r.machine.registers m s)

abbrev pub trapping : Machine → Cause → Stepped
trapping M t = record { outcome = Trapped t; machine = M }

abbrev pub pushed : Push → List ℕ
pushed NoPush = []
pushed (PushOne x) = x ∷ []
pushed (PushTwo x y) = x ∷ y ∷ []

-- The memory with the words that are written, `popped` being those that go from the stack.
abbrev pub written : List ℕ → List ℕ → Write → List ℕ
written m popped NoWrite = m
written m popped (WriteOne a x) = sets m a (x ∷ [])
written m popped (WriteTwo a x y) = sets m a (x ∷ y ∷ [])
written m popped (WriteThree a x y z) = sets m a (x ∷ y ∷ z ∷ [])
written m popped (WritePopped a) = sets m a popped

-- So many words go from the stack, these come in their place, these are written, and the registers are q but for the height.
abbrev pub applied : State → ℕ → Push → Write → Registers → State
applied S pops push write q =
    let height = S.registers.height in
    state (raised q (height - pops + pushes push)) (written S.memory (top_words pops height S.stack) write)
    (sets S.stack (height - pops) (pushed push))

-- The code that is gone to: that of the module whose globals GP then points at, which is the running one where GP stays.
abbrev pub code_after : Program → (gp : ℕ) → List ℕ
code_after P gp = cond (eqb gp P.attributes.globals) P.code (running P.modules gp).code

-- The effect is carried out: room for the pushed words (36 is "stack full"), then the next place (21).
unfoldable pub apply : Program → State → Effect → After
apply P S (Trap t) = after (Trapped t) S
apply P S Finish = after Finished S
apply P S (Go pops push write q) =
    cond (ltb (length S.stack) (S.registers.height - pops + pushes push)) (after (Trapped cause.StackFull) S)
    (cond (ltb q.pc (length (code_after P q.gp))) (after Went (applied S pops push write q)) (after (Trapped cause.Outside) S))

-- Code traps: 20 is "unserved", 21 "offset or bytes outside the code", 22 "too few stack words".
unfoldable pub perform : Program → State → Decoded → After
perform P S (Err Unserved) = after (Trapped cause.Unserved) S
perform P S (Err Past) = after (Trapped cause.Outside) S
perform P S (Ok (i, next)) =
    cond (ltb S.registers.height (needed i)) (after (Trapped cause.TooFewWords) S) (apply P S (executed P S next i))

unfoldable pub step_of : Program → State → After
step_of P S = perform P S (decode_at P.code (length P.code) S.registers.pc)

-- A step of the module that runs: the one whose globals GP points at.
abbrev pub step_in : Modules → State → After
step_in Ms S = step_of (running Ms S.registers.gp) S
