-- NEXT at the end of the range. 02, K3: "Where the sum in NEXT leaves the signed range, the loop is left as if the sum had passed
-- the last value, five words go, and the variable keeps its value."
use Rattle.std.specs.Prelude.{true, false, List, ◌≡◌, ℕ, ◌<◌, ◌+ℤ◌}
use Rattle.std.specs.Int.{w32}
use Rattle.std.proofs.Common.{to_z}
use Rattle.operate.specs.Value.{is_signed}
use Rattle.effect.specs.declared.effect.Effect.TheVariants.{Trap, Go}
use Rattle.effect.specs.declared.effect.Push.TheVariants.{NoPush}
use Rattle.effect.specs.declared.effect.Write.TheVariants.{NoWrite, WriteOne}
use Rattle.registers.specs.Modules.{Modules}
use Rattle.registers.specs.declared.Registers.{Registers}
use Rattle.registers.specs.Memory.{read, live, protects}
use Rattle.registers.specs.Changes.{moved}
use Rattle.control.specs.Control.{next_effect}
use Rattle.numbers.specs.declared.Trap.TheVariants.{NotLive, Protected, OutOfRange}

-- In either direction, whatever the last value is.
abbrev pub LeavesAtRangeEnd : Type 0
LeavesAtRangeEnd =
    (Ms : Modules) (q : Registers) (m : List ℕ) (next a l s label : ℕ) → live q a 1 ≡ true → protects Ms q m a ≡ false
    → is_signed (to_z w32 (read m a) +ℤ to_z w32 s) ≡ false
    → next_effect Ms q m next a l s label ≡ Go 5 NoPush NoWrite (moved q next)

-- "The address must still be live and unprotected": 32, then 33, whatever the sum is.
abbrev pub TestsAddress : Type 0
TestsAddress =
    (Ms : Modules) (q : Registers) (m : List ℕ) (next a l s label : ℕ)
    → (live q a 1 ≡ false → next_effect Ms q m next a l s label ≡ Trap NotLive)
    × (live q a 1 ≡ true → protects Ms q m a ≡ true → next_effect Ms q m next a l s label ≡ Trap Protected)

-- "Refusals: NEXT no longer gives 31."
abbrev pub NeverTraps31 : Type 0
NeverTraps31 =
    (Ms : Modules) (q : Registers) (m : List ℕ) (next a l s label : ℕ)
    → next_effect Ms q m next a l s label ≡ Trap OutOfRange → ⊥

-- 01: "with a step of 0 NEXT always goes round again".
abbrev pub ZeroGoesRound : Type 0
ZeroGoesRound =
    (Ms : Modules) (q : Registers) (m : List ℕ) (next a l label : ℕ) → live q a 1 ≡ true → protects Ms q m a ≡ false
    → read m a < 0x1_0000_0000 → next_effect Ms q m next a l 0 label ≡ Go 0 NoPush (WriteOne a (read m a)) (moved q label)
