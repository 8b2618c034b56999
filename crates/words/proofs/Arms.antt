-- What the last arm of a match on the numbers below m knows: the number is none of them, so it is at least m. By induction on m.
use Prim.Native.Nat.{ℕ, zero, suc, ◌≤◌, zero-le}
use mathlib.Core.Path.{◌≡◌}
use native.Mathlib.Omega.{arith}

abbrev pub Other : ℕ → ℕ → Type 0
Other zero n = Unit {0}
Other (suc m) n = Other m n × (n ≡ m → ⊥)

above : (m n : ℕ) → m ≤ n → (n ≡ m → ⊥) → suc m ≤ n
above m n l e = omega arith

pub past : (m n : ℕ) → Other m n → m ≤ n
past zero n o = zero-le
past (suc m) n o = above m n (past m n o.0) o.1
