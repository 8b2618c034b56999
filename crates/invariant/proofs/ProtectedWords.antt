-- Protected words are as they were after a step: header words and constants of every module, and the link words of active calls.
use mathlib.Core.Bool.{true, or-true}
use mathlib.Core.List.{List}
use mathlib.Core.Path.{◌≡◌}
use Prim.Native.Nat.{ℕ}
use Rattle.registers.specs.declared.Registers.{Registers}
use Rattle.registers.specs.Modules.{Modules, is_fixed}
use Rattle.registers.specs.Memory.{read, is_link, protects}
use Rattle.stackmap.specs.Ways.{Subject}
use Rattle.step.specs.Ready.{Ready}
use Rattle.step.proofs.Preservation.{step-holds}
use Rattle.invariant.specs.Active.{Configuration}
use Rattle.invariant.proofs.Invariant.{Setting, registers_of, program_in, step_in}

pub fixed-protected : (Ms : Modules) (q : Registers) (m : List ℕ) (a : ℕ) → is_fixed 0 Ms a ≡ true → protects Ms q m a ≡ true
unfolding protects
fixed-protected Ms q m a h = rw h

link-protected : (Ms : Modules) (q : Registers) (m : List ℕ) (a : ℕ) → is_link m q.fp q.calls a ≡ true
    → protects Ms q m a ≡ true
unfolding protects
link-protected Ms q m a h = rw h (or-true (is_fixed 0 Ms a))

module _ (U : Subject) (E : Setting) (c : Configuration) (R : Ready (program_in U E) c.state) where
  protected-kept : (a : ℕ) → protects E.modules (registers_of c) c.state.memory a ≡ true
      → read (step_in U E c).state.memory a ≡ read c.state.memory a
  protected-kept a p = (step-holds (program_in U E) c.state R).spared a p

  pub fixed_kept : (a : ℕ) → is_fixed 0 E.modules a ≡ true → read (step_in U E c).state.memory a ≡ read c.state.memory a
  fixed_kept a h = protected-kept a (fixed-protected E.modules (registers_of c) c.state.memory a h)

  pub links-kept : (a : ℕ) → is_link c.state.memory (registers_of c).fp (registers_of c).calls a ≡ true
      → read (step_in U E c).state.memory a ≡ read c.state.memory a
  links-kept a h = protected-kept a (link-protected E.modules (registers_of c) c.state.memory a h)
