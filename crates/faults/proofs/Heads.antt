-- Whether places start: the first two apart from the others.
use mathlib.Core.Bool.{Bool, ◌&&◌, and-true, and_assoc}
use mathlib.Core.Path.{◌≡◌, refl, sym, ap}
use mathlib.Core.List.{List, [], ◌∷◌}
use Prim.Native.Nat.{ℕ, zero, suc, ◌+◌}
use Rattle.std.specs.List.{list_all, range_with_len}
use Rattle.words.specs.Order.{every}
use Rattle.words.specs.Series.{series}
use Rattle.layout.specs.Cut.{Marks, starts_in}
use Rattle.faults.specs.Faults.{all_start}

pub heads-start :
    (marks : Marks) (p x y : ℕ) (l : List ℕ) →
    all_start marks p (x ∷ y ∷ l) ≡ (all_start marks p (x ∷ y ∷ []) && all_start marks p l)
heads-start marks p x y l =
    rw (and-true (starts_in marks p y)) (sym (and_assoc (starts_in marks p x) (starts_in marks p y) (all_start marks p l)))

-- A test of all values in a row.
pub list_all-series :
    (test : ℕ → Bool) (f : ℕ → ℕ) (at n : ℕ) → list_all (λ k. test (f k)) (range_with_len at n) ≡ every test (series f 1 at n)
list_all-series test f at zero = refl
list_all-series test f at (suc n) = ap (λ b. test (f at) && b) (list_all-series test f (at + 1) n)
