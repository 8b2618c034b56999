-- A number of 01's table, 0 for none, and the workspace left with it: what the check, or a part of it, answers.
use Rattle.std.specs.Prelude.{List, ℕ}

pub record Checking : Type 0 where
  pub number : ℕ
  pub workspace : List ℕ

abbrev pub checking : ℕ → List ℕ → Checking
checking n w = record { number = n; workspace = w }
