-- The word of a sum, difference, product, quotient or remainder of two words, read as natural numbers.
use Prim.Native.Nat.{ℕ, zero, suc, ◌+◌, ◌*◌, ◌-◌, ◌%◌, ◌≤◌, ◌<◌}
use mathlib.Core.Bool.{Bool}
use mathlib.Core.Path.{◌≡◌, ap, refl}
use native.Mathlib.Omega.{arith}
use native.Mathlib.Nat.{mul-le-mul, mod-eq_of_lt}
use borrow.Author.Tests.{lt-ltb, le-ltb}
use lib.IntN.{pos, sub_ℕ, ◌-ℤ◌}
use mir.Syntax.{w32, w64}
use mir.Val.{Fits}
use Rattle.operate.specs.Value.{by_rule, unsigned_word}
use Rattle.std.specs.Prelude.{Ok}

pub in-word : (wraps : Bool) (n : ℕ) → n < 0x1_0000_0000 → Ok n ≡ unsigned_word wraps (pos n)
unfolding unsigned_word
in-word wraps n h = rw (lt-ltb n 0x1_0000_0000 h)

-- A number no larger than a word is a word.
pub no-larger : {x : ℕ} (wraps : Bool) (n : ℕ) → Fits w32 x → n ≤ x → Ok n ≡ unsigned_word wraps (pos n)
no-larger wraps n f h = in-word wraps n (omega (arith, f.fits))

-- Past the words: what the rule gives.
pub past_word : (wraps : Bool) (n : ℕ) → 0x1_0000_0000 ≤ n → by_rule wraps (n % 0x1_0000_0000) ≡ unsigned_word wraps (pos n)
unfolding unsigned_word
past_word wraps n h = rw (le-ltb n 0x1_0000_0000 h)

minus : (x y : ℕ) → pos x -ℤ pos y ≡ sub_ℕ x y
minus x zero = rw (le-ltb x 0 (omega arith)) (ap pos (omega arith))
minus x (suc y) = refl

-- Below 0 likewise; the difference of two words is small.
pub below-zero : (wraps : Bool) (x y : ℕ) → Fits w32 y → x < y
    → by_rule wraps ((x + (0x1_0000_0000 - y)) % 0x1_0000_0000) ≡ unsigned_word wraps (pos x -ℤ pos y)
unfolding unsigned_word
below-zero wraps x y f h =
    let small : (y - suc x) % 0x1_0000_0000 ≡ y - suc x = mod-eq_of_lt (omega (arith, f.fits)) in
    let round : (x + (0x1_0000_0000 - y)) % 0x1_0000_0000 ≡ x + (0x1_0000_0000 - y) = mod-eq_of_lt (omega (arith, f.fits)) in
    let same : x + (0x1_0000_0000 - y) ≡ 0xFFFF_FFFF - (y - suc x) = omega (arith, f.fits) in
    rw (minus x y, lt-ltb x y h, small, round, same)

pub difference-is : (wraps : Bool) (x y : ℕ) → Fits w32 x → y ≤ x → Ok (x - y) ≡ unsigned_word wraps (pos x -ℤ pos y)
difference-is wraps x y f h = rw (minus x y, le-ltb x y h) (no-larger wraps (x - y) f (omega arith))

pub product-fits : (x y : ℕ) → Fits w32 x → Fits w32 y → Fits w64 (x * y)
product-fits x y f g =
    record {
      fits =
          omega (
            arith,
            mul-le-mul {n₁ = x} {m₁ = y} {n₂ = 0xFFFF_FFFF} {m₂ = 0xFFFF_FFFF} (omega (arith, f.fits))
                (omega (arith, g.fits)),
          );
    }
