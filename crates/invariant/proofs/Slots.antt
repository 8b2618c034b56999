-- What a step does to the share: each thing that an instruction can do goes to one of the ways out that the stack picture
-- gives its shape, with that way's slots on the share.
use mathlib.Core.Bool.{true, false, true≢false}
use mathlib.Core.List.{List}
use mathlib.Core.Option.{some}
use mathlib.Core.Path.{◌≡◌, refl, sym, ◌∙◌}
use Prim.Native.Nat.{ℕ}
use native.Mathlib.Omega.{arith}
use borrow.Author.Tests.{ne_eqb, lt-leb}
use Rattle.entries.specs.Entries.{entry_at, entry_count, no_callee}
use Rattle.opcode.specs.declared.instruction.Instruction.{Instruction}
use Rattle.shape.specs.Shape.{shape_of, finds, needed}
use Rattle.shape.specs.declared.Shape.{Shape}
use Rattle.shape.specs.declared.Shape.TheVariants as shape
use Rattle.shape.specs.Linkage.{linkage_of}
use Rattle.effect.specs.declared.effect.Effect.{Effect}
use Rattle.effect.specs.declared.effect.Push.TheVariants.{NoPush}
use Rattle.registers.specs.declared.Registers.{Registers}
use Rattle.registers.specs.Modules.{Modules, module_at, globals_start}
use Rattle.registers.specs.Changes.{called, returned}
use Rattle.execute.specs.Execute.{finding}
use Rattle.execute.proofs.Acts.{Acts, acts, traps, no-library, passes, resizes, stores, drops, jumps, branches, keeps-boolean, pops-boolean}
use Rattle.execute.proofs.Acts.{skips-loop, enters-loop, leaves_loop, leaves-by-sum, repeats-loop, switches}
use Rattle.execute.proofs.Acts.{leaves-switch, no-callee, calls, no-external-callee, calls-external, enters, finishes, returns}
use Rattle.stackmap.specs.Slots.{Slot}
use Rattle.stackmap.specs.Ways.{Subject, Way, ways}
use Rattle.step.specs.Ready.{Ready}
use Rattle.step.proofs.Running.{own_code, code-of-module}
use Rattle.invariant.specs.Active.{Configuration}
use Rattle.invariant.proofs.Invariant.{Setting, registers_of, program_in, Doing, Callable, Sound, ReturnsInside}
use Rattle.invariant.proofs.Invariant.{SlotsKept, FindsWords}
use Rattle.invariant.proofs.Application.{good-trap, good-finish, good-go, Goes, good-steps}
use Rattle.invariant.proofs.Movement.{Start, straight-goes}
use Rattle.invariant.proofs.Jumps.{pop_goes, jump_goes, jump-c-goes, jump-tf-goes}
use Rattle.invariant.proofs.Tables.{in-targets}
use Rattle.invariant.proofs.LabelWords.{iter-word, switch-word}
use Rattle.invariant.proofs.Labels.{iter-goes, switch-goes, next-goes, leave-goes}

-- A procedure that can be called is there.
callee : {A : Type 0} (code : List ℕ) (d : ℕ) → Callable code d → no_callee code d ≡ true → A
callee code d (z, k, h) e =
    let there : no_callee code d ≡ false = rw (ne_eqb d 0 (λ n. omega arith), lt-leb (entry_count code) d k) in
    absurd (true≢false (sym e ∙ there))

module _ (U : Subject) (E : Setting) (c : Configuration) (i : Instruction) (next p : ℕ) (l : List Slot) (out : List Way)
    (D : Doing U c i next) (R : Ready (program_in U E) c.state) (S : Start (program_in U E) c l out)
    (sound : Sound E.modules U.code i) where
  abbrev Ms : Modules
  Ms = E.modules

  acts-go : (s : Shape) (e : Effect) → shape_of i ≡ s → ways U p (registers_of c).pc next s l ≡ some out
      → (s ≡ shape.Rtn → ReturnsInside (program_in U E) c)
      → Acts (program_in U E) (finding (finds s) c.state) next i s e → Goes U E c out (linkage_of s) e
  unfolding ways
  acts-go s e is w back (traps d) = good-trap d
  acts-go s e is w back (no-library n) = absurd (true≢false (sym n ∙ sound.library))
  acts-go s e is w back (passes {come = come} n) = straight-goes S next come n refl refl w
  acts-go s e is w back (resizes {come = come} n f r) = straight-goes S next come n refl refl w
  acts-go s e is w back (stores a x y mode n) = straight-goes S next 0 refl refl refl w
  acts-go s e is w back (drops {n = n}) = pop_goes S next n w
  acts-go s e is w back (jumps {d = d}) = jump_goes S next d w
  acts-go s e is w back (branches {d = d} b) = jump-c-goes S next d b w
  acts-go s e is w back (keeps-boolean {d = d}) = (jump-tf-goes S next d w).0
  acts-go s e is w back (pops-boolean {d = d}) = (jump-tf-goes S next d w).1
  acts-go s e is w back (skips-loop {d = d}) = (iter-goes S next d w).0
  acts-go s e is w back (enters-loop {d = d} a x n) = (iter-goes S next d w).1 _
      (iter-word U.code (registers_of c).pc next i D.decoded is)
  acts-go s e is w back (leaves_loop a x n) = (next-goes next _ l S w).0
  acts-go s e is w back leaves-by-sum = (next-goes next _ l S w).0
  acts-go s e is w back (repeats-loop a x n) = (next-goes next _ l S w).1
  acts-go s e is w back (switches {t = t} {n = n} x) =
      switch-goes S t n _ _ (switch-word U.code (registers_of c).pc next i D.decoded is)
      (in-targets U.code (registers_of c).pc t n x) w
  acts-go s e is w back leaves-switch = leave-goes l S w
  acts-go s e is w back (no-callee {p = d} n) = callee U.code d (sound.callable d is) n
  acts-go s e is w back (calls {p = d} k r) =
      let q : Registers = called (registers_of c) 2 (registers_of c).gp (entry_at U.code d) in
      good-go {pops = 0} {push = NoPush} {q = q} (rw S.own (sound.callable d is).2)
      (λ room. record {
        untouched = record { same-height = omega arith; same-stack = refl };
        place = refl;
        global = refl;
      })
  acts-go s e is w back (no-external-callee {l = k} {p = d} n) = callee (module_at Ms k).code d (sound.external k d is) n
  acts-go s e is w back (calls-external {l = k} {p = d} b a r) =
      let q : Registers = called (registers_of c) 3 (globals_start Ms k) (entry_at (module_at Ms k).code d) in
      good-go {pops = 0} {push = NoPush} {q = q} (rw (code-of-module (program_in U E) c.state R k b) (sound.external k d is).2)
      (λ room. record {
        untouched = record { same-height = omega arith; same-stack = refl };
        place = refl;
        global = refl;
      })
  acts-go s e is w back (enters mp n r) = straight-goes S next 0 refl refl refl w
  acts-go s e is w back finishes = good-finish refl
  acts-go s e is w back (returns n) =
      good-go {pops = 0} {push = NoPush} {q = returned (registers_of c) c.state.memory} (back refl (omega arith))
      (λ room. record {
        untouched = record { same-height = omega arith; same-stack = refl };
        place = refl;
        global = refl;
      })

-- An instruction finds its words (FindsWords), so that the effect is carried out.
pub slots_kept : FindsWords → SlotsKept
slots_kept finds U E c i next p l out D R height holds w inside sound back =
    let own = own_code (program_in U E) c.state R in
    let S : Start (program_in U E) c l out = record { height = height; holds = holds; inside = inside; own = own } in
    good-steps U E c out (linkage_of (shape_of i)) i next D (omega (arith, finds U p (registers_of c).pc next (shape_of i) l out w))
    (acts-go U E c i next p l out D R S sound (shape_of i) _ refl w back (acts (program_in U E) (finding (needed i) c.state)
    next i))
