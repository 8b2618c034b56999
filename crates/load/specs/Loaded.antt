-- What load answers: the number that refuses it, or the registers at the start.
use Rattle.std.specs.Prelude.{Result, ℕ}
use Rattle.registers.specs.declared.Registers.{Registers}

abbrev pub Loaded : Type 0
Loaded = Result Registers ℕ
