-- A step is not both above and below 0; an active call has its links below FP.
use Prim.Native.Nat.{ℕ, zero, suc, ◌≤◌}
use mathlib.Core.Path.{◌≡◌, refl}
use mathlib.Core.Bool.{Bool, true, false, ◌&&◌, ◌||◌, or-false}
use mathlib.Core.List.{List}
use native.Mathlib.Omega.{arith}
use lib.IntN.{ℤ, pos, negsuc}
use lib.Signed.{lt_z}
use borrow.Author.Tests.{le-ltb}
use Rattle.registers.specs.Memory.{link_words, chained}
use Rattle.registers.proofs.Links.{chain-lower}

pub rising : (s : ℤ) (b c : Bool) → lt_z (pos 0) s ≡ true → b ≡ (lt_z (pos 0) s && b) || (lt_z s (pos 0) && c)
rising (pos n) b c h = rw (h, le-ltb n 0 (omega arith), or-false)
rising (negsuc n) b c h = let z : ◌≡◌ {A = Bool} false true = h in cc

pub framed : (m : List ℕ) (start fp calls : ℕ) → chained m start fp calls ≡ true → (calls ≡ 0 → ⊥) → link_words m fp ≤ fp
framed m start fp zero h n = absurd (n refl)
framed m start fp (suc calls) h n = omega (arith, chain-lower m start fp calls h)
