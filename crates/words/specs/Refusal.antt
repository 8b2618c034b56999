-- Which number a call hands back (01, "Numbers handed back": "within one call the lowest number wins"; 02 gives 17 and 18 their place
-- after 7).
use Rattle.std.specs.Prelude.{Bool, cond, List, [], ◌∷◌, ℕ, eqb, ltb}

-- A number of 01's table, and whether it is given.
pub data Test : Type 0 where
  ◌when◌ : ℕ → Bool → Test

infix 70 ◌when◌
-- The first number given, of tests in their order; 0 where none is.
abbrev pub refusal : List Test → ℕ
refusal [] = 0
refusal (n when holds ∷ rest) = cond holds n (refusal rest)

-- The lower of two numbers, 0 being none.
unfoldable pub lower : ℕ → ℕ → ℕ
lower a b = cond (eqb a 0) b (cond (eqb b 0) a (cond (ltb b a) b a))
