-- The row of the module whose first global is GP, and its attributes.
use mathlib.Core.Path.{◌≡◌, ap}
use mathlib.Core.Bool.{true}
use mathlib.Core.List.{List}
use Prim.Native.Nat.{ℕ, ◌+◌, ◌≤◌, ◌<◌, ◌/◌}
use native.Mathlib.Omega.{arith}
use lib.Dec.{eqb}
use lib.ListN.{length}
use Rattle.registers.specs.declared.Attributes.{Attributes}
use Rattle.registers.specs.Modules.{Modules, globals_start, frames_start, number_at, is_base, row_word, modules_in}
use Rattle.registers.specs.Program.{running}
use Rattle.registers.proofs.Rows.{module-row, modules-length, row_within}
use Rattle.registers.proofs.Bases.{base-below, base-number}

module _ (t copy : List ℕ) (gp k : ℕ) (base : is_base (modules_in t copy) gp ≡ true) (is : k ≡ number_at (modules_in t copy) gp) where
  abbrev Ms : Modules
  Ms = modules_in t copy

  pub row_below : k < length t / 5
  row_below = omega (arith, base-below Ms gp base, modules-length t copy)

  first : globals_start Ms k ≡ gp
  first = rw is (base-number Ms gp base)

  pub row-constants : gp + row_word t k 2 ≤ frames_start Ms
  row-constants = omega (arith, first, row_within t copy k row_below)

  pub attributes-anew : (A : Attributes) (was : ℕ) → A ≡ (running Ms was).attributes
      → record { globals = gp; constants = gp + row_word t k 2; frames = A.frames; wraps = eqb (row_word t k 4) 1 }
      ≡ (running Ms gp).attributes
  attributes-anew A was a =
      let frames : A.frames ≡ frames_start Ms = ap (λ (X : Attributes). X.frames) a in
      rw (← is, first, module-row t copy k row_below, frames)
