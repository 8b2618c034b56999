-- How many branches a switch's table can have.
use Prim.Native.Nat.{ℕ, ◌+◌, ◌≤◌}
use native.Mathlib.Omega.{arith}
use Rattle.shape.specs.declared.Table.{Table}
use Rattle.shape.specs.declared.Table.TheVariants.{Branches, Ranges}
use Rattle.successors.specs.Successors.{table_size}

pub size_below : (t : Table) (n : ℕ) → table_size t n ≤ n + 1
size_below Branches n = omega arith
size_below Ranges n = omega arith
