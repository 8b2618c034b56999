-- ALLOC and FREE complete where their tests pass: each by its effect, carried out on the registers.
use mathlib.Core.Path.{◌≡◌, ◌∙◌}
use mathlib.Core.Bool.{true}
use mathlib.Core.List.{List}
use Prim.Native.Nat.{ℕ, ◌+◌, ◌-◌, ◌≤◌, ◌<◌}
use native.Mathlib.Omega.{arith}
use lib.ListN.{length, set}
use borrow.Author.Tests.{le-leb}
use Rattle.opcode.specs.declared.instruction.Instruction.TheVariants.{Alloc, Free}
use Rattle.shape.specs.Shape.{shape_of}
use Rattle.effect.specs.declared.effect.Push.TheVariants.{NoPush, PushOne}
use Rattle.effect.specs.declared.effect.Write.TheVariants.{NoWrite}
use Rattle.effect.specs.Data.{alloc_effect, free_effect}
use Rattle.registers.specs.Program.{Program}
use Rattle.registers.specs.State.{State}
use Rattle.registers.specs.Memory.{read}
use Rattle.registers.specs.Changes.{sized}
use Rattle.execute.specs.Execute.{execute}
use Rattle.execute.proofs.Top.{top-found}
use Rattle.state.proofs.Fitting.{Fitting}
use Rattle.fast.specs.Fast.{Completed}
use Rattle.fast.proofs.Goes.{went}
use Rattle.fast_frames.specs.Frames.{framed}
use Rattle.fast.specs.Fast.{Decodes}

module _ (P : Program) (pc fp mp gp h n : ℕ) (m s : List ℕ) (F : Fitting P.attributes (framed pc fp mp gp h n m s)) where
  abbrev S : State
  S = framed pc fp mp gp h n m s

  pub alloc-done : (next top : ℕ) → Decodes P.code pc Alloc next → 1 ≤ h → top ≡ mp + read s (h - 1) → top ≤ length m
      → next < length P.code → Completed true P S (framed next fp top gp h n m (set s (h - 1) mp))
  unfolding execute shape_of alloc_effect
  alloc-done next top d one is room inside =
      let same : h - 1 + 1 ≡ h = omega arith in (
        inside,
        went P S Alloc next 1 (PushOne mp) NoWrite (sized S.registers next top) d one
            (rw (top-found s h one, ← is, le-leb top (length m) room)) (omega (arith, F.height)) F.global inside ∙ rw same,
      )

  pub free-done : (next size : ℕ) → Decodes P.code pc Free next → 1 ≤ h → size ≡ read s (h - 1) → fp + size ≤ mp
      → next < length P.code → Completed true P S (framed next fp (mp - size) gp (h - 1) n m s)
  unfolding execute shape_of free_effect
  free-done next size d one is room inside =
      let same : h - 1 + 0 ≡ h - 1 = omega arith in (
        inside,
        went P S Free next 1 NoPush NoWrite (sized S.registers next (mp - size)) d one
            (rw (top-found s h one, ← is, le-leb (fp + size) mp room)) (omega (arith, F.height)) F.global inside ∙ rw same,
      )
