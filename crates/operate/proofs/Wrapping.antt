-- Unsigned results by both rules: what is left of a number by 2^32 differs from it by a multiple of 2^32, and a quotient or a
-- remainder is no larger than the dividend.
use mathlib.Core.Bool.{Bool, true, false, not}
use mathlib.Core.Path.{◌≡◌, ◌∙◌, refl, sym}
use Prim.Native.Nat.{ℕ, suc, ◌/◌, ◌%◌, ◌<◌}
use native.Mathlib.Omega.{arith}
use native.Mathlib.Nat.{div-add-mod', mod-lt, div-le_self, mod-le}
use borrow.Author.Tests.{ltb-true}
use lib.Dec.{ltb}
use lib.IntN.{ℤ, pos, negsuc}
use Rattle.words.proofs.Tests.{by-test}
use Rattle.opcode.specs.declared.instruction.Operation.TheVariants.{Signed, Unsigned, Negate, Equal, NotEqual}
use Rattle.opcode.specs.declared.instruction.Operation.TheVariants.{CompareSigned, CompareUnsigned, Set, Not}
use Rattle.opcode.specs.declared.instruction.Arithmetic.{Arithmetic}
use Rattle.opcode.specs.declared.instruction.Arithmetic.TheVariants.{Add, Subtract, Multiply, Divide, Modulus}
use Rattle.operate.specs.Value.{unsigned_word}
use Rattle.operate.specs.Arithmetic.{unsigned_number, unsigned_value, divides}
use Rattle.operate.specs.Operation.{operation_value}
use Rattle.operate.specs.Wrapping.{FollowsRule, ThreeByRule, OnlyThreeWrap}
use Rattle.operate.proofs.Naturals.{in-word}
use Rattle.std.specs.Prelude.{Ok, Err}
use Rattle.numbers.specs.declared.Trap.TheVariants.{OutOfRange}

left : (n : ℕ) → n % 0x1_0000_0000 < 0x1_0000_0000
left n = mod-lt n (omega arith)

by-rule : (wraps : Bool) (z : ℤ) → FollowsRule wraps z (unsigned_word wraps z)
unfolding unsigned_word
by-rule true (pos n) =
    by-test (FollowsRule true (pos n)) (ltb n 0x1_0000_0000) (Ok n) (Ok (n % 0x1_0000_0000))
    (λ e. (ltb-true n 0x1_0000_0000 e, (0, omega arith)))
    (λ e. (left n, (n / 0x1_0000_0000, omega (arith, div-add-mod' n 0x1_0000_0000))))
by-rule true (negsuc n) = (
  omega arith,
  (suc (n / 0x1_0000_0000), omega (arith, div-add-mod' n 0x1_0000_0000, left n)),
)
by-rule false (pos n) =
    by-test (FollowsRule false (pos n)) (ltb n 0x1_0000_0000) (Ok n) (Err OutOfRange)
    (λ e. (ltb-true n 0x1_0000_0000 e, refl)) (λ e. (e, refl))
by-rule false (negsuc n) = (refl, refl)

pub three-by-rule : ThreeByRule
unfolding unsigned_value
three-by-rule wraps op three x y = rw three (by-rule wraps (unsigned_number op x y))

-- The rule says nothing of a word.
alike : (n : ℕ) → n < 0x1_0000_0000 → unsigned_word true (pos n) ≡ unsigned_word false (pos n)
alike n h = sym (in-word true n h) ∙ in-word false n h

division-alike : (op : Arithmetic) → not (divides op) ≡ false → (x y : ℕ) → x < 0x1_0000_0000
    → unsigned_value true op x y ≡ unsigned_value false op x y
unfolding unsigned_value
division-alike Add e x y h = let z : ◌≡◌ {A = ℕ} 0 1 = cc in absurd (omega (arith, z))
division-alike Subtract e x y h = let z : ◌≡◌ {A = ℕ} 0 1 = cc in absurd (omega (arith, z))
division-alike Multiply e x y h = let z : ◌≡◌ {A = ℕ} 0 1 = cc in absurd (omega (arith, z))
division-alike Divide e x y h = rw (alike (x / y) (omega (arith, div-le_self x y)))
division-alike Modulus e x y h = rw (alike (x % y) (omega (arith, mod-le x y)))

pub only-three-wrap : OnlyThreeWrap
unfolding operation_value
only-three-wrap (Signed op) e x y h = refl
only-three-wrap (Unsigned op) e x y h = division-alike op e x y h
only-three-wrap Negate e x y h = refl
only-three-wrap Equal e x y h = refl
only-three-wrap NotEqual e x y h = refl
only-three-wrap (CompareSigned order) e x y h = refl
only-three-wrap (CompareUnsigned order) e x y h = refl
only-three-wrap (Set op) e x y h = refl
only-three-wrap Not e x y h = refl
