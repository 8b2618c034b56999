-- The turns of the loop that takes the marks away.
use mathlib.Core.List.{List}
use mathlib.Core.Path.{◌≡◌, refl, ◌∙◌}
use Prim.Native.Nat.{ℕ, ◌+◌, ◌*◌, ◌-◌, ◌<◌, ◌≤◌}
use native.Mathlib.Nat.{sub-eq-zero_of_le}
use native.Mathlib.Omega.{arith}
use lib.ListN.{length, set, length-set}
use Rattle.words.proofs.Left.{one_left}
use Rattle.verifier.specs.Examine.{unmarked}

-- The marks before `at` are taken away: what is left decides.
pub record Unmarking (before w : List ℕ) (size at : ℕ) : Type 0 where
  pub rest : unmarked at (size - at) w ≡ unmarked 0 size before
  pub kept : length w ≡ length before

pub unmarking-start : {w : List ℕ} {size : ℕ} → Unmarking w w size 0
unmarking-start {size = size} = let z : size - 0 ≡ size = omega arith in record { rest = rw z; kept = refl }

module _ {before w : List ℕ} {size at : ℕ} (u : Unmarking before w size at) where
  pub unmarking-next : at < size → {v : List ℕ} → v ≡ set w (4 * at + 3) 0 → Unmarking before v size (at + 1)
  unmarking-next h {v} e = record {
    rest = rw e (rw (one_left at size h) at u.rest);
    kept = rw e (length-set w (4 * at + 3) 0 ∙ u.kept);
  }

  pub unmarking-over : size ≤ at → w ≡ unmarked 0 size before
  unmarking-over h = rw (sub-eq-zero_of_le h) at u.rest
