-- How many of `n` are left after `i`: one and the rest while `i` is below `n`. What holds at a place and past it holds from it on.
use Prim.Native.Nat.{ℕ, suc, ◌+◌, ◌-◌, ◌<◌, ◌≤◌}
use mathlib.Core.Logic.{⊎_elim}
use mathlib.Core.Path.{◌≡◌, subst}
use native.Mathlib.Nat.{eq-or-lt_of_le}
use native.Mathlib.Omega.{arith}

pub one_left : (i n : ℕ) → i < n → n - i ≡ suc (n - (i + 1))
one_left i n h = omega arith

pub at_or_after : (P : ℕ → Type 0) (p q : ℕ) → p ≤ q → P p → (p < q → P q) → P q
at_or_after P p q l now later = ⊎_elim (λ (e : p ≡ q). subst P e now) later (eq-or-lt_of_le l)
