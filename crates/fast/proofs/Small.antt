-- Addresses of frames, globals and constants are words: the data areas and the frames lie in memory, which is small.
use mathlib.Core.Path.{◌≡◌}
use mathlib.Core.Bool.{true}
use Prim.Native.Nat.{ℕ, ◌+◌, ◌%◌, ◌<◌}
use native.Mathlib.Omega.{arith}
use Rattle.registers.specs.declared.Attributes.{Attributes}
use Rattle.registers.specs.declared.Registers.{Registers}
use Rattle.state.specs.Fits.{bounded}
use Rattle.state.proofs.Fitting.{Fitting, fitting}
use Rattle.fast.specs.Fast.{Spot, state_at}

module _ (A : Attributes) (q : Registers) (T : Spot) (f : bounded A (state_at q T) ≡ true) (n : ℕ) (small : n < 65536) where
  F : Fitting A (state_at q T)
  F = fitting A (state_at q T) f

  pub small-local : q.fp + n < 0x1_0000_0000
  small-local = omega (arith, F.frame, F.within, F.room, small)

  pub small-global : q.gp + n < 0x1_0000_0000
  small-global = omega (arith, F.global, F.first, F.second, F.attributes, F.room, small)

  pub small-constant : A.constants + n < 0x1_0000_0000
  small-constant = omega (arith, F.second, F.attributes, F.room, small)

-- Operands are small.
pub digit-small : (b : ℕ) → b % 16 < 65536
digit-small b = omega arith

pub byte_small : (n : ℕ) → n < 256 → n < 65536
byte_small n l = omega arith
