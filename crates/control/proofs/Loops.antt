-- NEXT at the end of the range: its tests are those of a store, and its sum either is a word or leaves the loop.
use mathlib.Core.Bool.{true}
use mathlib.Core.Path.{◌≡◌, ap}
use Prim.Native.Nat.{ℕ, suc}
use native.Mathlib.Omega.{arith}
use lib.IntN.{ℤ, pos, negsuc, ◌+ℤ◌}
use lib.Signed.{mag}
use mir.Syntax.{w32}
use mir.Val.{Fits, to_z}
use mir.Facts.{sfits_to_z, of_z-to_z}
use borrow.Author.Tests.{lt-ltb, le-leb}
use Rattle.words.proofs.Tests.{by-test}
use Rattle.operate.specs.Value.{is_signed, signed_word, Value}
use Rattle.operate.specs.Arithmetic.{signed_value}
use Rattle.effect.specs.declared.effect.Effect.{Effect}
use Rattle.effect.specs.declared.effect.Effect.TheVariants.{Trap, Finish, Go}
use Rattle.registers.specs.Memory.{read, live, protects}
use Rattle.control.specs.Control.{beyond, next_sum, sum_effect, next_effect}
use Rattle.control.specs.Loops.{LeavesAtRangeEnd, TestsAddress, NeverTraps31, ZeroGoesRound}
use Rattle.std.specs.Prelude.{Ok, Err}
use Rattle.numbers.specs.declared.Trap.TheVariants.{OutOfRange, NotLive, Protected}
use Rattle.numbers.specs.declared.Trap.{Trap as Cause}
use Rattle.numbers.specs.TrapNumber.{trap_number}

pub leaves-at-range-end : LeavesAtRangeEnd
unfolding next_effect next_sum signed_value signed_word
leaves-at-range-end Ms q m next a l s label is_live free out = rw (is_live, free, out)

pub tests-address : TestsAddress
unfolding next_effect
tests-address Ms q m next a l s label = (λ dead. rw dead, λ is_live kept. rw (is_live, kept))

-- No trap with 31.
abbrev Not31 : Effect → Type 0
Not31 (Trap t) = trap_number t ≡ 31 → ⊥
Not31 Finish = Unit {0}
Not31 (Go pops push write q) = Unit {0}

by_value : (f : Value → Effect) → ((x : ℕ) → Not31 (f (Ok x))) → ((t : Cause) → Not31 (f (Err t))) → (v : Value) → Not31 (f v)
by_value f w s (Ok x) = w x
by_value f w s (Err t) = s t

never-31 : (e : Effect) → Not31 e → e ≡ Trap OutOfRange → ⊥
never-31 (Trap t) h e = let same : t ≡ OutOfRange = cc in h (ap trap_number same)
never-31 Finish h e = let z : ◌≡◌ {A = ℕ} 0 1 = cc in absurd (omega (arith, z))
never-31 (Go pops push write q) h e = let z : ◌≡◌ {A = ℕ} 0 1 = cc in absurd (omega (arith, z))

pub never-traps-31 : NeverTraps31
unfolding next_effect
never-traps-31 Ms q m next a l s label e =
    let sum =
    by_value (sum_effect q next a l s label)
    (λ x. by-test Not31 (beyond (to_z w32 s) (to_z w32 x) (to_z w32 l)) _ _ (λ h. tt) (λ h. tt)) (λ n. tt) (next_sum m a s) in
    never-31 (next_effect Ms q m next a l s label)
    (by-test Not31 (live q a 1) _ (Trap NotLive)
    (λ h. by-test Not31 (protects Ms q m a) (Trap Protected) _ (λ k z. omega (arith, z)) (λ k. sum)) (λ h z. omega (arith, z)))
    e

plus-zero : (z : ℤ) → z +ℤ pos 0 ≡ z
plus-zero (pos n) = ap pos (omega arith)
plus-zero (negsuc n) = rw (le-leb 1 (suc n) (omega arith)) (ap negsuc (omega arith))

pub zero-goes-round : ZeroGoesRound
unfolding next_effect next_sum signed_value signed_word
zero-goes-round Ms q m next a l label is_live free small =
    let fits : Fits w32 (read m a) = record { fits = small } in
    let signed : is_signed (to_z w32 (read m a)) ≡ true = lt-ltb (mag (to_z w32 (read m a))) 0x8000_0000 (sfits_to_z fits).sfits in
    rw (is_live, free, plus-zero (to_z w32 (read m a)), signed, of_z-to_z fits)
