-- When a number is a word: the tests of `signed_word`, and the word of a number between its bounds.
use mathlib.Core.Bool.{true, false}
use mathlib.Core.Path.{◌≡◌}
use native.Mathlib.Omega.{arith}
use borrow.Author.Tests.{ltb-true, ltb-false, lt-ltb, le-ltb}
use lib.IntN.{ℤ, pos, negsuc}
use lib.Signed.{mag, lt_z}
use mir.Syntax.{w32}
use mir.Val.{SFits, of_z}
use Rattle.operate.specs.Value.{signed_word}
use Rattle.std.specs.Prelude.{Ok, Err}
use Rattle.numbers.specs.declared.Trap.TheVariants.{OutOfRange}

-- The two bounds.
pub too-low : (z : ℤ) → lt_z z (negsuc 0x7FFF_FFFF) ≡ true → Err OutOfRange ≡ signed_word z
unfolding signed_word
too-low (pos n) h = cc
too-low (negsuc n) h = rw (le-ltb n 0x8000_0000 (omega (arith, ltb-true 0x7FFF_FFFF n h)))

pub too-high : (z : ℤ) → lt_z (pos 0x7FFF_FFFF) z ≡ true → Err OutOfRange ≡ signed_word z
unfolding signed_word
too-high (pos n) h = rw (le-ltb n 0x8000_0000 (omega (arith, ltb-true 0x7FFF_FFFF n h)))
too-high (negsuc n) h = cc

pub within : (z : ℤ) → lt_z z (negsuc 0x7FFF_FFFF) ≡ false → lt_z (pos 0x7FFF_FFFF) z ≡ false → SFits w32 z
within (pos n) l h = record { sfits = omega (arith, ltb-false 0x7FFF_FFFF n h) }
within (negsuc n) l h = record { sfits = omega (arith, ltb-false 0x7FFF_FFFF n l) }

-- Between them its word is its bits.
pub word-is : (z : ℤ) → SFits w32 z → Ok (of_z w32 z) ≡ signed_word z
unfolding signed_word
word-is z f = rw (lt-ltb (mag z) 0x8000_0000 f.sfits)
