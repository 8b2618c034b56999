-- LOAD_E, LOAD_A_E and STOR_E complete where their tests pass; a library's globals lie below the frames of calls, and are not
-- protected.
use mathlib.Core.Path.{◌≡◌, ◌∙◌, subst, ap}
use mathlib.Core.Bool.{true, false}
use Prim.Native.Nat.{ℕ, ◌+◌, ◌-◌, ◌≤◌, ◌<◌}
use native.Mathlib.Omega.{arith}
use lib.ListN.{length, set}
use borrow.Author.Tests.{lt-ltb, le-leb}
use Rattle.opcode.specs.declared.instruction.Instruction.TheVariants.{Load, LoadAddress, Store}
use Rattle.opcode.specs.declared.instruction.Base.TheVariants.{External}
use Rattle.opcode.specs.declared.instruction.Mode.TheVariants.{Normal}
use Rattle.shape.specs.Shape.{shape_of}
use Rattle.effect.specs.declared.effect.Push.TheVariants.{NoPush, PushOne}
use Rattle.effect.specs.declared.effect.Write.TheVariants.{NoWrite, WriteOne}
use Rattle.effect.specs.Data.{load_effect, load_address_effect, store_effect}
use Rattle.registers.specs.declared.Registers.{Registers}
use Rattle.registers.specs.Modules.{Modules, module_at, globals_start, frames_start, no_library}
use Rattle.registers.specs.Program.{Program}
use Rattle.registers.specs.State.{State, state}
use Rattle.registers.specs.Memory.{read, live, chained, protects}
use Rattle.registers.specs.Changes.{moved, raised}
use Rattle.registers.proofs.Rows.{library-below}
use Rattle.registers.proofs.Links.{chain-start}
use Rattle.registers.proofs.Protected.{data-within, global-free}
use Rattle.execute.specs.Execute.{execute}
use Rattle.execute.proofs.Top.{store_found}
use Rattle.state.proofs.Fitting.{Fitting}
use Rattle.step.specs.declared.Outcome.TheVariants.{Went}
use Rattle.step.specs.Step.{after, step_of}
use Rattle.step.specs.Ready.{Ready}
use Rattle.step.proofs.Running.{ready-bounds}
use Rattle.fast.specs.Fast.{Decodes}
use Rattle.fast.proofs.Goes.{went}

module _ (P : Program) (S : State) (R : Ready P S) where
  abbrev q : Registers
  q = S.registers

  abbrev Ms : Modules
  Ms = P.modules

  F : Fitting P.attributes S
  F = ready-bounds P S R

  -- A library's global is below MP, and no link.
  chain : chained S.memory (frames_start Ms) q.fp q.calls ≡ true
  chain =
      let same : P.attributes.frames ≡ frames_start Ms = ap (λ X. X.attributes.frames) R.is_running in
      subst (λ (start : ℕ). chained S.memory start q.fp q.calls ≡ true) same F.links

  pub global-live : (l n : ℕ) → l < length Ms → n < (module_at Ms l).globals → globals_start Ms l + n < q.mp
  global-live l n there within =
      omega (arith, (data-within 0 Ms l there).1, chain-start S.memory (frames_start Ms) q.fp q.calls chain, F.frame)

  module _ (next l n : ℕ) (there : no_library Ms l ≡ false) (inside : next < length P.code) (a : ℕ)
      (is : a ≡ globals_start Ms l + n) where
    pub load-done : Decodes P.code q.pc (Load (External l) Normal n) next → a < q.mp → q.height < length S.stack
        → step_of P S ≡ after Went (state (raised (moved q next) (q.height + 1)) S.memory
        (set S.stack q.height (read S.memory a)))
    unfolding execute shape_of load_effect live
    load-done d low room =
        let none : q.height - 0 ≡ q.height = omega arith in
        went P S (Load (External l) Normal n) next 0 (PushOne (read S.memory a)) NoWrite (moved q next) d (omega arith)
        (rw (there, ← is, le-leb (a + 1) q.mp (omega arith))) (omega arith) F.global inside ∙ rw none

    pub address-done : Decodes P.code q.pc (LoadAddress (External l) n) next → a < 0x1_0000_0000
        → q.height < length S.stack
        → step_of P S ≡ after Went (state (raised (moved q next) (q.height + 1)) S.memory (set S.stack q.height a))
    unfolding execute shape_of load_address_effect
    address-done d low room =
        let none : q.height - 0 ≡ q.height = omega arith in
        went P S (LoadAddress (External l) n) next 0 (PushOne a) NoWrite (moved q next) d (omega arith)
        (rw (there, ← is, lt-ltb a 0x1_0000_0000 low)) (omega arith) F.global inside ∙ rw none

    pub store-done : Decodes P.code q.pc (Store (External l) Normal n) next → n < (module_at Ms l).globals → 1 ≤ q.height
        → step_of P S ≡ after Went (state (raised (moved q next) (q.height - 1))
        (set S.memory a (read S.stack (q.height - 1))) S.stack)
    unfolding shape_of store_effect live
    store-done d within one =
        let none : q.height - 1 + 0 ≡ q.height - 1 = omega arith in
        let below : l < length Ms = library-below Ms l there in
        let low : a < q.mp = omega (arith, global-live l n below within) in
        let free : protects Ms q S.memory a ≡ false =
        global-free Ms q S.memory a chain l below (omega arith) (omega arith) in
        went P S (Store (External l) Normal n) next 1 NoPush (WriteOne a (read S.stack (q.height - 1))) (moved q next) d one
        (store_found P q S.memory S.stack next (External l) Normal n one
        ∙ rw (there, ← is, le-leb (a + 1) q.mp (omega arith), free)) (omega (arith, F.height)) F.global inside ∙ rw none
