-- What run answers: the number that refuses it, or how it ended.
use Rattle.std.specs.Prelude.{Result, ℕ}
use Rattle.run.specs.declared.Ended.{Ended}

abbrev pub Answer : Type 0
Answer = Result Ended ℕ
