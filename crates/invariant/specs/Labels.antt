-- The word that a label's maker pushes. 01: "A label slot holds the word that its maker pushes." ITER that goes on pushes this
-- word, or nothing (where it skips its loop); a switch that goes on pushes this word.
use Rattle.std.specs.Prelude.{◌⊎◌, ◌≡◌, ℕ, length}
use Rattle.opcode.specs.Decode.{decode_at}
use Rattle.std.specs.Prelude.{Ok}
use Rattle.opcode.specs.declared.instruction.Instruction.{Instruction}
use Rattle.shape.specs.Shape.{shape_of}
use Rattle.shape.specs.declared.Shape.{Shape}
use Rattle.shape.specs.declared.Shape.TheVariants.{Iter, Switch}
use Rattle.shape.specs.declared.Table.{Table}
use Rattle.effect.specs.declared.effect.Effect.TheVariants.{Go}
use Rattle.effect.specs.declared.effect.Push.{Push}
use Rattle.effect.specs.declared.effect.Push.TheVariants.{NoPush, PushOne}
use Rattle.effect.specs.declared.effect.Write.{Write}
use Rattle.registers.specs.declared.Registers.{Registers}
use Rattle.registers.specs.Program.{Program}
use Rattle.registers.specs.State.{State}
use Rattle.execute.specs.Execute.{executed}
use Rattle.stackmap.specs.Ways.{label_word}

-- Whatever an instruction of this shape pushes where it goes on, a property holds of it and of the label word of its place.
abbrev pub Pushes : Shape → (Push → ℕ → Type 0) → Type 0
Pushes s Property =
    (P : Program) (S : State) (i : Instruction) (next : ℕ)
    → decode_at P.code (length P.code) S.registers.pc ≡ Ok (i, next) → shape_of i ≡ s
    → (pops : ℕ) (push : Push) (write : Write) (q : Registers) → executed P S next i ≡ Go pops push write q
    → Property push (label_word P.code S.registers.pc)

abbrev pub IterPushes : Type 0
IterPushes = (d : ℕ) → Pushes (Iter d) (λ push x. (push ≡ NoPush) ⊎ (push ≡ PushOne x))

abbrev pub SwitchPushes : Type 0
SwitchPushes = (t : Table) (n : ℕ) → Pushes (Switch t n) (λ push x. push ≡ PushOne x)
