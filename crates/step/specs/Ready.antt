-- What a step finds: a program that is its set's running one, in a state that fits. No rule, but what the run keeps.
use Rattle.std.specs.Prelude.{true, ◌≡◌, ℕ, ◌≤◌, length}
use Rattle.registers.specs.Modules.{Modules, module_at, is_base}
use Rattle.registers.specs.Program.{Program, running}
use Rattle.registers.specs.State.{State}
use Rattle.state.specs.Fits.{fits}

-- No code is longer than a record allows.
abbrev pub Short : Modules → Type 0
Short Ms = (k : ℕ) → length (module_at Ms k).code ≤ 4096

pub record Ready (P : Program) (S : State) : Type 0 where
  pub base : is_base P.modules S.registers.gp ≡ true
  pub is_running : P ≡ running P.modules S.registers.gp
  pub short : Short P.modules
  pub fit : fits P S ≡ true
