-- Where a switch goes: to the ELSE part or to a branch of its table, all of which are among its targets.
use mathlib.Core.List.{List, ◌∷◌}
use mathlib.Core.Path.{◌≡◌}
use Prim.Native.Nat.{ℕ, zero, suc, ◌+◌, ◌<◌}
use native.Mathlib.Omega.{arith}
use lib.Dec.{leb}
use borrow.Author.Tests.{leb-true}
use Rattle.words.proofs.Tests.{either, by-test}
use Rattle.operand.specs.Distance.{place_at}
use Rattle.switch_table.specs.Switch.{else_distance, range_holds, search_from, search_distance, or_else}
use Rattle.control.specs.Control.{switch_distance}
use Rattle.shape.specs.declared.Table.{Table}
use Rattle.shape.specs.declared.Table.TheVariants.{Branches, Ranges}
use Rattle.successors.specs.Successors.{table_target, table_from, else_target, switch_targets}
use Rattle.stackmap.specs.Slots.{Slot}
use Rattle.stackmap.specs.Ways.{to_all}
use Rattle.stackmap.specs.StackMap.{Among, here, there}

pub data In (t : ℕ) : List ℕ → Type 0 where
  in-first : {ts : List ℕ} → In t (t ∷ ts)
  in-later : {u : ℕ} {ts : List ℕ} → In t ts → In t (u ∷ ts)

-- Every target is given the list.
pub among-all : {t : ℕ} {ts : List ℕ} (l : List Slot) → In t ts → Among t l (to_all ts l)
among-all l in-first = here
among-all l (in-later h) = there (among-all l h)

module _ (code : List ℕ) (at : ℕ) where
  in_table : (t : Table) (k n x : ℕ) → x < n → In (table_target code at t (k + x)) (table_from code at t k n)
  in_table t k zero x h = absurd (omega arith)
  in_table t k (suc n) zero h = let e : k + 0 ≡ k = omega arith in rw e in-first
  in_table t k (suc n) (suc x) h =
      let e : k + suc x ≡ k + 1 + x = omega arith in rw e (in-later (in_table t (k + 1) n x (omega arith)))

  -- SWITCH_X: the first range that holds the selector, or ELSE.
  in-found : (x k n : ℕ)
      → In (place_at at (or_else (search_from code at x k n) (else_distance code at)))
      (else_target code at ∷ table_from code at Ranges k n)
  in-found x k zero = in-first
  in-found x k (suc n) =
      either (λ (d : ℕ). In (place_at at (or_else d (else_distance code at)))
      (else_target code at ∷ table_from code at Ranges k (suc n)))
      (range_holds code at k x) _ _ (in-later in-first) (skip (in-found x (k + 1) n))
    where
      skip : {t u v : ℕ} {ts : List ℕ} → In t (u ∷ ts) → In t (u ∷ v ∷ ts)
      skip in-first = in-first
      skip (in-later h) = in-later (in-later h)

  pub in-targets : (t : Table) (n x : ℕ) → In (place_at at (switch_distance code at t n x)) (switch_targets code at t n)
  unfolding switch_targets search_distance
  in-targets Branches n x =
      let z : 0 + x ≡ x = omega arith in
      by-test (λ (d : ℕ). In (place_at at d) (switch_targets code at Branches n)) (leb x n) _ _
      (λ e. in-later (rw z at (in_table Branches 0 (n + 1) x (omega (arith, leb-true x n e)))))
      (λ e. in-first)
  in-targets Ranges n x = in-found x 0 n
