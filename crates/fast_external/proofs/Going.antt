-- CALL_E and RTN complete where their tests pass: the effect is carried out, and the place lies in the code that is gone to.
use mathlib.Core.Path.{◌≡◌, ◌∙◌, refl, sym, ap}
use mathlib.Core.Bool.{Bool, true, false, and-eq-true_iff, ◌||◌}
use mathlib.Core.List.{List}
use Prim.Native.Nat.{ℕ, suc, ◌+◌, ◌-◌, ◌≤◌, ◌<◌}
use native.Mathlib.Numerals.{add-one}
use native.Mathlib.Omega.{arith}
use lib.ListN.{length, set}
use borrow.Author.Tests.{ne_eqb, lt-leb, le-leb, lt-ltb, le-ltb}
use Rattle.entries.specs.Entries.{entry_at, no_callee}
use Rattle.opcode.specs.Decode.{decode_at}
use Rattle.std.specs.Prelude.{Ok}
use Rattle.opcode.specs.declared.instruction.Instruction.{Instruction}
use Rattle.opcode.specs.declared.instruction.Instruction.TheVariants.{CallExternal, Rtn}
use Rattle.shape.specs.Shape.{shape_of, needed}
use Rattle.effect.specs.declared.effect.Push.{Push}
use Rattle.effect.specs.declared.effect.Push.TheVariants.{NoPush}
use Rattle.effect.specs.declared.effect.Write.{Write}
use Rattle.effect.specs.declared.effect.Write.TheVariants.{NoWrite, WriteThree}
use Rattle.effect.specs.declared.effect.Effect.TheVariants.{Go}
use Rattle.effect.specs.Data.{pushes}
use Rattle.control.specs.Control.{call_external_effect, rtn_effect}
use Rattle.registers.specs.declared.Registers.{Registers}
use Rattle.registers.specs.Modules.{module_at, globals_start, frames_start, number_at, is_base, no_library}
use Rattle.registers.specs.Program.{Program}
use Rattle.registers.specs.State.{State, state}
use Rattle.registers.specs.Memory.{is_local, links_based, link_based, global_link, saved_fp, negated}
use Rattle.registers.specs.Changes.{called, returned}
use Rattle.registers.proofs.Rows.{library-below}
use Rattle.registers.proofs.Bases.{base-below, base-number}
use Rattle.execute.specs.Execute.{execute, executed}
use Rattle.state.proofs.Fitting.{Fitting, fit_parts}
use Rattle.step.specs.declared.Outcome.TheVariants.{Went}
use Rattle.step.specs.Step.{after, applied, code_after, apply, perform, step_of}
use Rattle.step.specs.Ready.{Ready}
use Rattle.step.proofs.Running.{ready-bounds, code-of-module}
use Rattle.fast.specs.Fast.{Decodes}

-- Where the instruction's words are there and its effect has room and a place within the code that is gone to, it is carried out.
pub went_to : (P : Program) (S : State) (i : Instruction) (next pops : ℕ) (push : Push) (write : Write) (q : Registers)
    → decode_at P.code (length P.code) S.registers.pc ≡ Ok (i, next) → needed i ≤ S.registers.height
    → executed P S next i ≡ Go pops push write q → S.registers.height - pops + pushes push ≤ length S.stack
    → (code : List ℕ) → code_after P q.gp ≡ code → q.pc < length code
    → step_of P S ≡ after Went (applied S pops push write q)
unfolding step_of perform apply
went_to P S i next pops push write q d enough e room code is inside =
    rw (
      d,
      le-ltb S.registers.height (needed i) enough,
      e,
      le-ltb (length S.stack) (S.registers.height - pops + pushes push) room,
      is,
      lt-ltb q.pc (length code) inside,
    )

module _ (P : Program) (S : State) (R : Ready P S) where
  abbrev q : Registers
  q = S.registers

  abbrev m : List ℕ
  m = S.memory

  F : Fitting P.attributes S
  F = ready-bounds P S R

  pub frames-end : frames_start P.modules ≤ 16384
  frames-end =
      let same : P.attributes.frames ≡ frames_start P.modules = ap (λ X. X.attributes.frames) R.is_running in
      omega (arith, F.attributes, F.room)

  pub call-external-done : (next l p : ℕ) → Decodes P.code q.pc (CallExternal l p) next → no_library P.modules l ≡ false
      → (code : List ℕ) → code ≡ (module_at P.modules l).code → no_callee code p ≡ false → q.calls < 64 → q.mp + 3 ≤ length m
      → entry_at code p < length code
      → step_of P S ≡ after Went (state (called q 3 (globals_start P.modules l) (entry_at code p))
      (set (set (set m q.mp q.gp) (q.mp + 1) q.fp) (q.mp + 2) (negated next)) S.stack)
  unfolding execute shape_of call_external_effect
  call-external-done next l p d there code is callee calls room inside =
      let none : q.height - 0 + 0 ≡ q.height = omega arith in
      let two : q.mp + 2 ≡ suc (suc q.mp) = omega arith in
      went_to P S (CallExternal l p) next 0 NoPush (WriteThree q.mp q.gp q.fp (negated next))
      (called q 3 (globals_start P.modules l) (entry_at code p)) d (omega arith)
      (rw (there, ← is, callee, lt-leb 64 q.calls calls, le-leb (q.mp + 3) (length m) room)) (omega (arith, F.height)) code
      (code-of-module P S R l (library-below P.modules l there) ∙ sym is) inside ∙ rw (none, add-one q.mp, two)

  -- GP after RTN is some module's first global.
  by-link : (t b : Bool) → (t || b) ≡ true → t ≡ false → b ≡ true
  by-link true b e f = let z : ◌≡◌ {A = Bool} true false = f in cc
  by-link false b e f = e

  pub returned-base : (q.calls ≡ 0 → ⊥) → is_base P.modules (returned q m).gp ≡ true
  returned-base some = by (is_local m q.fp) refl
    where
      more : q.calls ≡ suc (q.calls - 1)
      more = omega arith

      based : link_based P.modules m q.fp ≡ true
      based =
          ((and-eq-true_iff (link_based P.modules m q.fp) (links_based P.modules m (saved_fp m q.fp) (q.calls - 1))).0
          (rw more at (fit_parts P S R.fit).based)).0

      by : (t : Bool) → is_local m q.fp ≡ t → is_base P.modules (returned q m).gp ≡ true
      by true e = rw e R.base
      by false e = rw e (by-link (is_local m q.fp) (is_base P.modules (global_link m q.fp)) based e)

  pub return-done : (next : ℕ) → Decodes P.code q.pc Rtn next → (q.calls ≡ 0 → ⊥) → (code : List ℕ)
      → code ≡ (module_at P.modules (number_at P.modules (returned q m).gp)).code → (returned q m).pc < length code
      → step_of P S ≡ after Went (state (returned q m) m S.stack)
  unfolding execute shape_of rtn_effect
  return-done next d some code is inside =
      let none : q.height - 0 + 0 ≡ q.height = omega arith in
      let base = returned-base some in
      let k : ℕ = number_at P.modules (returned q m).gp in
      let back : code_after P (returned q m).gp ≡ code =
      ap (λ gp. code_after P gp) (sym (base-number P.modules (returned q m).gp base))
      ∙ code-of-module P S R k (base-below P.modules (returned q m).gp base) ∙ sym is in
      went_to P S Rtn next 0 NoPush NoWrite (returned q m) d (omega arith) (rw (ne_eqb q.calls 0 some))
      (omega (arith, F.height)) code back inside ∙ rw none
