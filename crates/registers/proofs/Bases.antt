-- First globals and module numbers tell each other, since each data frame has three words at least.
use Prim.Native.Nat.{ℕ, zero, suc, ◌+◌, ◌<◌, ◌≤◌}
use mathlib.Core.Path.{◌≡◌, refl, sym, ap}
use mathlib.Core.Bool.{Bool, true, false}
use mathlib.Core.List.{[], ◌∷◌}
use native.Mathlib.Omega.{arith}
use lib.Dec.{eqb}
use lib.ListN.{length}
use borrow.Author.Tests.{eq-eqb, ne_eqb, eqb-true, ltb-true, lt-ltb}
use Rattle.registers.specs.Modules.{Modules, data_size, data_start, globals_start, number_from, number_at, is_base}
use Rattle.registers.proofs.Protected.{data-within}

-- The number of a module's first global is its own.
number-found : (start : ℕ) (Ms : Modules) (k : ℕ) → k < length Ms → number_from start Ms (data_start start Ms k + 3) ≡ k
number-found start [] k h = absurd (omega arith)
number-found start (M ∷ Ms) zero h = rw (eq-eqb (start + 3) (start + 3) refl)
number-found start (M ∷ Ms) (suc k) h =
    let within = data-within (start + data_size M) Ms k (omega arith) in
    rw (ne_eqb (data_start (start + data_size M) Ms k + 3) (start + 3) (λ e. omega (arith, within.0)))
    (ap suc (number-found (start + data_size M) Ms k (omega arith)))

pub number-of-base : (Ms : Modules) (k : ℕ) → k < length Ms → number_at Ms (globals_start Ms k) ≡ k
unfolding number_at
number-of-base Ms k h = number-found 0 Ms k h

pub base_there : (Ms : Modules) (k : ℕ) → k < length Ms → is_base Ms (globals_start Ms k) ≡ true
base_there Ms k h = rw (number-of-base Ms k h) (lt-ltb k (length Ms) h)

-- And where a number is found, the address is that module's first global.
base-found : (start : ℕ) (Ms : Modules) (a : ℕ) → number_from start Ms a < length Ms
    → data_start start Ms (number_from start Ms a) + 3 ≡ a
base-found start [] a h = absurd (omega arith)
base-found start (M ∷ Ms) a h = by (base-found (start + data_size M) Ms a) (eqb a (start + 3)) refl
  where
    by : (number_from (start + data_size M) Ms a < length Ms
        → data_start (start + data_size M) Ms (number_from (start + data_size M) Ms a) + 3 ≡ a)
        → (t : Bool) → eqb a (start + 3) ≡ t → data_start start (M ∷ Ms) (number_from start (M ∷ Ms) a) + 3 ≡ a
    by rest true e = rw e (sym (eqb-true a (start + 3) e))
    by rest false e =
        let below : suc (number_from (start + data_size M) Ms a) < length (M ∷ Ms) = rw e at h in
        rw e (rest (omega (arith, below)))

module _ (Ms : Modules) (a : ℕ) (h : is_base Ms a ≡ true) where
  pub base-below : number_at Ms a < length Ms
  base-below = ltb-true (number_at Ms a) (length Ms) h

  pub base-number : globals_start Ms (number_at Ms a) ≡ a
  unfolding number_at
  base-number = base-found 0 Ms a (ltb-true (number_from 0 Ms a) (length Ms) h)

-- A number is at most that of the modules.
number_small : (start : ℕ) (Ms : Modules) (a : ℕ) → number_from start Ms a ≤ length Ms
number_small start [] a = omega arith
number_small start (M ∷ Ms) a = by (number_small (start + data_size M) Ms a) (eqb a (start + 3)) refl
  where
    by : number_from (start + data_size M) Ms a ≤ length Ms → (t : Bool) → eqb a (start + 3) ≡ t
        → number_from start (M ∷ Ms) a ≤ length (M ∷ Ms)
    by rest true e = rw e (omega arith)
    by rest false e = rw e (omega arith)

pub number-most : (Ms : Modules) (a : ℕ) → number_at Ms a ≤ length Ms
unfolding number_at
number-most Ms a = number_small 0 Ms a
