-- The word that holds the signed number of a narrower one: the number itself in the lower half of the width's numbers, and in the
-- upper half so much more as a word has more numbers than the width.
use mathlib.Core.Path.{◌≡◌}
use Prim.Native.Nat.{ℕ, ◌+◌, ◌-◌, ◌^◌, ◌<◌, ◌≤◌}
use native.Mathlib.Omega.{arith}
use borrow.Author.Tests.{lt-ltb, le-ltb}
use mir.Syntax.{Width, w32}
use mir.Val.{bits, hbits}
use mir.Facts.{of_z-to_z}
use Rattle.operand.specs.Operand.{extended}

pub extended-low : (width : Width) (n : ℕ) → n < 2 ^ hbits width → extended width n ≡ n
unfolding extended
extended-low width n h = rw (lt-ltb n (2 ^ hbits width) h)

pub extended-high :
    (width : Width) (n : ℕ) →
    2 ^ hbits width ≤ n → n < 2 ^ bits width → 2 ^ bits width ≤ 2 ^ 32 → extended width n ≡ n + (2 ^ 32 - 2 ^ bits width)
unfolding extended
extended-high width n l h f = rw (le-ltb n (2 ^ hbits width) l) (omega arith)

pub extended-word : (n : ℕ) → n < 2 ^ 32 → extended w32 n ≡ n
unfolding extended
extended-word n h = of_z-to_z {w = w32} (record { fits = h })
