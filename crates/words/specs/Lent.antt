-- What is written into lent lists. 02, K1: "a lent buffer past the writing is untouched".
use Rattle.std.specs.Prelude.{List, ◌++◌, ℕ, length, drop}

-- At the front of a lent list.
abbrev pub over : List ℕ → List ℕ → List ℕ
over xs lent = xs ++ drop (length xs) lent
