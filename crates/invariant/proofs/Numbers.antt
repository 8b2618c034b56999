-- The library that CALL_E names is there: only it has its shape, and its number is then from 1 to the last module's.
use mathlib.Core.Bool.{false}
use mathlib.Core.Path.{◌≡◌}
use Prim.Native.Nat.{ℕ, ◌<◌}
use native.Mathlib.Omega.{arith}
use lib.Dec.{eqb, leb}
use lib.ListN.{length}
use borrow.Author.Tests.{eqb-false, leb-false}
use Rattle.opcode.specs.declared.instruction.Instruction.{Instruction}
use Rattle.opcode.specs.declared.instruction.Instruction.TheVariants.{LoadConstant, Load, LoadAddress, Store, Pop, Swap, Nop}
use Rattle.opcode.specs.declared.instruction.Instruction.TheVariants.{Operate, Alloc, Free, Jump, JumpC, JumpT, JumpF, Iter}
use Rattle.opcode.specs.declared.instruction.Instruction.TheVariants.{Next, Switch, SwitchX, Leave, Call, CallExternal, Enter, Rtn}
use Rattle.shape.specs.Shape.{shape_of}
use Rattle.shape.specs.declared.Shape.TheVariants as shape
use Rattle.registers.specs.Modules.{Modules, no_library}
use Rattle.execute.proofs.Acts.{lacks}
use Rattle.step.proofs.Intact.{apart}

there : (Ms : Modules) (l : ℕ) → no_library Ms l ≡ false → (0 < l) × (l < length Ms)
there Ms l e =
    let (low, most) = apart (eqb l 0) (leb (length Ms) l) e in
    (omega (arith, eqb-false l 0 low), leb-false (length Ms) l most)

pub library-there : (Ms : Modules) (i : Instruction) (k d : ℕ) → shape_of i ≡ shape.CallExternal k d → lacks Ms i ≡ false
    → (0 < k) × (k < length Ms)
unfolding shape_of
library-there Ms (LoadConstant n) k c s l = let z : ◌≡◌ {A = ℕ} 0 1 = cc in absurd (omega arith)
library-there Ms (Load base mode n) k c s l = let z : ◌≡◌ {A = ℕ} 0 1 = cc in absurd (omega arith)
library-there Ms (LoadAddress base n) k c s l = let z : ◌≡◌ {A = ℕ} 0 1 = cc in absurd (omega arith)
library-there Ms (Store base mode n) k c s l = let z : ◌≡◌ {A = ℕ} 0 1 = cc in absurd (omega arith)
library-there Ms (Pop n) k c s l = let z : ◌≡◌ {A = ℕ} 0 1 = cc in absurd (omega arith)
library-there Ms Swap k c s l = let z : ◌≡◌ {A = ℕ} 0 1 = cc in absurd (omega arith)
library-there Ms Nop k c s l = let z : ◌≡◌ {A = ℕ} 0 1 = cc in absurd (omega arith)
library-there Ms (Operate op) k c s l = let z : ◌≡◌ {A = ℕ} 0 1 = cc in absurd (omega arith)
library-there Ms Alloc k c s l = let z : ◌≡◌ {A = ℕ} 0 1 = cc in absurd (omega arith)
library-there Ms Free k c s l = let z : ◌≡◌ {A = ℕ} 0 1 = cc in absurd (omega arith)
library-there Ms (Jump d) k c s l = let z : ◌≡◌ {A = ℕ} 0 1 = cc in absurd (omega arith)
library-there Ms (JumpC d) k c s l = let z : ◌≡◌ {A = ℕ} 0 1 = cc in absurd (omega arith)
library-there Ms (JumpT d) k c s l = let z : ◌≡◌ {A = ℕ} 0 1 = cc in absurd (omega arith)
library-there Ms (JumpF d) k c s l = let z : ◌≡◌ {A = ℕ} 0 1 = cc in absurd (omega arith)
library-there Ms (Iter d) k c s l = let z : ◌≡◌ {A = ℕ} 0 1 = cc in absurd (omega arith)
library-there Ms Next k c s l = let z : ◌≡◌ {A = ℕ} 0 1 = cc in absurd (omega arith)
library-there Ms (Switch n) k c s l = let z : ◌≡◌ {A = ℕ} 0 1 = cc in absurd (omega arith)
library-there Ms (SwitchX n) k c s l = let z : ◌≡◌ {A = ℕ} 0 1 = cc in absurd (omega arith)
library-there Ms Leave k c s l = let z : ◌≡◌ {A = ℕ} 0 1 = cc in absurd (omega arith)
library-there Ms (Call p) k c s l = let z : ◌≡◌ {A = ℕ} 0 1 = cc in absurd (omega arith)
library-there Ms (CallExternal j p) k c s l =
    let same : j ≡ k = cc in
    rw same at (there Ms j l)
library-there Ms (Enter par dat) k c s l = let z : ◌≡◌ {A = ℕ} 0 1 = cc in absurd (omega arith)
library-there Ms Rtn k c s l = let z : ◌≡◌ {A = ℕ} 0 1 = cc in absurd (omega arith)
