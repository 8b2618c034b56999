-- The values of a function at places in a row: words, entries or branches one behind the other.
use Rattle.std.specs.Prelude.{List, [], ◌∷◌, ℕ, zero, suc, ◌+◌}

-- At n places from `at` on, each `stride` behind the one before it.
abbrev pub series : (f : ℕ → ℕ) (stride at n : ℕ) → List ℕ
series f stride at zero = []
series f stride at (suc n) = f at ∷ series f stride (at + stride) n
