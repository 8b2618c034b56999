-- A 64-bit signed number that was stored reads back.
use mathlib.Core.Path.{◌≡◌}
use Prim.Native.Nat.{◌<◌}
use lib.IntN.{ℤ}
use lib.Signed.{mag}
use mir.Syntax.{w64}
use mir.Val.{to_z, of_z}
use mir.Facts.{to_z-of_z}

pub kept : (z : ℤ) → mag z < 0x8000_0000_0000_0000 → to_z w64 (of_z w64 z) ≡ z
kept z h = to_z-of_z {w = w64} {z = z} (record { sfits = h })
