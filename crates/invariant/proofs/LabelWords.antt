-- ITER and the switches push the word that their origin's label must hold: that is what an instruction of the shape can do, and
-- the shape tells the first byte, by which the word is known.
use mathlib.Core.List.{List}
use mathlib.Core.Logic.{◌⊎◌, inl, inr}
use mathlib.Core.Path.{◌≡◌, subst}
use Prim.Native.Nat.{ℕ}
use native.Mathlib.Omega.{arith}
use lib.ListN.{length}
use borrow.Author.Tests.{eq-eqb}
use Rattle.words.specs.Bytes.{byte_at}
use Rattle.opcode.specs.Decode.{decode_at}
use Rattle.std.specs.Prelude.{Ok}
use Rattle.opcode.specs.declared.instruction.Instruction.{Instruction}
use Rattle.shape.specs.Shape.{shape_of, needed}
use Rattle.shape.specs.declared.Shape.{Shape}
use Rattle.shape.specs.declared.Shape.TheVariants.{Iter, Switch}
use Rattle.shape.specs.declared.Table.{Table}
use Rattle.shape.proofs.Origins.{iter-origin, switch-origin}
use Rattle.effect.specs.declared.effect.Effect.{Effect}
use Rattle.effect.specs.declared.effect.Effect.TheVariants.{Go}
use Rattle.effect.specs.declared.effect.Push.TheVariants.{NoPush, PushOne}
use Rattle.registers.specs.State.{State}
use Rattle.execute.specs.Execute.{finding, executed}
use Rattle.execute.proofs.Acts.{Acts, acts, traps, no-library, skips-loop, enters-loop, switches}
use Rattle.switch_table.specs.Switch.{exit_label}
use Rattle.stackmap.specs.Ways.{label_word}
use Rattle.invariant.specs.Labels.{IterPushes, SwitchPushes}

-- Speak of a place in the code alone, so that they serve the theorems below and the invariant (`Slots`).
module _ (code : List ℕ) (at next : ℕ) (i : Instruction) (decoded : decode_at code (length code) at ≡ Ok (i, next)) where
  pub iter-word : {d : ℕ} → shape_of i ≡ Iter d → next ≡ label_word code at
  iter-word s =
      let o = iter-origin code (length code) at next i decoded s in
      rw (eq-eqb (byte_at code at) 0xE0 o.0) o.1

  pub switch-word : {t : Table} {n : ℕ} → shape_of i ≡ Switch t n → exit_label code at ≡ label_word code at
  switch-word s =
      let o = switch-origin code (length code) at next i decoded s in
      rw o.0

pub iter-pushes : IterPushes
iter-pushes d P S i next decoded is pops push write q e =
    by (subst (λ (s : Shape). Acts P T next i s (executed P S next i)) is (acts P T next i)) e
  where
    T : State
    T = finding (needed i) S

    x : ℕ
    x = label_word P.code S.registers.pc

    by : {f : Effect} → Acts P T next i (Iter d) f → f ≡ Go pops push write q → (push ≡ NoPush) ⊎ (push ≡ PushOne x)
    by (traps n) g = let z : ◌≡◌ {A = ℕ} 0 1 = cc in absurd (omega arith)
    by (no-library l) g = let z : ◌≡◌ {A = ℕ} 0 1 = cc in absurd (omega arith)
    by skips-loop g = let z : push ≡ NoPush = cc in inl z
    by (enters-loop a y n) g =
        let w : next ≡ x = iter-word P.code S.registers.pc next i decoded is in
        let z : push ≡ PushOne x = cc in
        inr z

pub switch-pushes : SwitchPushes
switch-pushes t n P S i next decoded is pops push write q e =
    by (subst (λ (s : Shape). Acts P T next i s (executed P S next i)) is (acts P T next i)) e
  where
    T : State
    T = finding (needed i) S

    x : ℕ
    x = label_word P.code S.registers.pc

    by : {f : Effect} → Acts P T next i (Switch t n) f → f ≡ Go pops push write q → push ≡ PushOne x
    by (traps n) g = let z : ◌≡◌ {A = ℕ} 0 1 = cc in absurd (omega arith)
    by (no-library l) g = let z : ◌≡◌ {A = ℕ} 0 1 = cc in absurd (omega arith)
    by (switches y) g =
        let w : exit_label P.code S.registers.pc ≡ x = switch-word P.code S.registers.pc next i decoded is in
        cc
