-- Tests of every number of a list; and "rise strictly and lie below the code size", which 01 asks of source offsets and of entries alike.
use Rattle.std.specs.Prelude.{Bool, true, ◌&&◌, List, [], ◌∷◌, ℕ, ◌+◌, leb, ltb}

-- Each number passes a test.
abbrev pub every : (ℕ → Bool) → List ℕ → Bool
every test [] = true
every test (x ∷ xs) = test x && every test xs

-- Each number is below the limit, the first at least `least`, each other above the one before it.
abbrev pub rising_from : ℕ → ℕ → List ℕ → Bool
rising_from limit least [] = true
rising_from limit least (x ∷ xs) = leb least x && (ltb x limit && rising_from limit (x + 1) xs)

abbrev pub rising : ℕ → List ℕ → Bool
rising limit xs = rising_from limit 0 xs
