-- Traps on data. 01: "30 to 38 | data traps: zero divisor; number does not fit; not live; protected; not a boolean; memory full; stack
-- full; 64 calls; FREE below FP".
use Rattle.std.specs.Prelude.{ℕ, ◌≤◌}

pub record DataTrap (n : ℕ) : Type 0 where
  pub lowest : 30 ≤ n
  pub highest : n ≤ 38
