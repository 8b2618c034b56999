-- The state as frame steps hold it: each register a number of its own.
use Rattle.std.specs.Prelude.{List, ℕ}
use Rattle.registers.specs.declared.Registers.{Registers}
use Rattle.registers.specs.State.{State, state}

abbrev pub registers_at : (pc fp mp gp height calls : ℕ) → Registers
registers_at pc fp mp gp h n = record { pc = pc; fp = fp; mp = mp; gp = gp; height = h; calls = n }

abbrev pub framed : (pc fp mp gp height calls : ℕ) (m s : List ℕ) → State
framed pc fp mp gp h n m s = state (registers_at pc fp mp gp h n) m s
