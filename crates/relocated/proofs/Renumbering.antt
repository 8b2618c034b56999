-- An instruction with another library number. All that are not external stay as they are; by the instructions, one a line.
use mathlib.Core.Bool.{false, false≢true}
use mathlib.Core.Path.{◌≡◌, refl, sym}
use Prim.Native.Nat.{ℕ}
use Rattle.opcode.specs.declared.instruction.Base.{Base}
use Rattle.opcode.specs.declared.instruction.Base.TheVariants.{Local, Global, Constant, Popped, External}
use Rattle.opcode.specs.declared.instruction.Instruction.{Instruction}
use Rattle.opcode.specs.declared.instruction.Instruction.TheVariants.{LoadConstant, Load, LoadAddress, Store, Pop, Swap, Nop}
use Rattle.opcode.specs.declared.instruction.Instruction.TheVariants.{Operate, Alloc, Free, Jump, JumpC, JumpT, JumpF, Iter}
use Rattle.opcode.specs.declared.instruction.Instruction.TheVariants.{Next, Switch, SwitchX, Leave, Call, CallExternal}
use Rattle.opcode.specs.declared.instruction.Instruction.TheVariants.{Enter, Rtn}
use Rattle.relocation.specs.Places.{outside, is_external}

abbrev pub renumbered_base : (ℕ → ℕ) → Base → Base
renumbered_base f Local = Local
renumbered_base f Global = Global
renumbered_base f Constant = Constant
renumbered_base f Popped = Popped
renumbered_base f (External l) = External (f l)

abbrev pub renumbered_by : (ℕ → ℕ) → Instruction → Instruction
renumbered_by f (LoadConstant n) = LoadConstant n
renumbered_by f (Load base mode n) = Load (renumbered_base f base) mode n
renumbered_by f (LoadAddress base n) = LoadAddress (renumbered_base f base) n
renumbered_by f (Store base mode n) = Store (renumbered_base f base) mode n
renumbered_by f (Pop n) = Pop n
renumbered_by f Swap = Swap
renumbered_by f Nop = Nop
renumbered_by f (Operate op) = Operate op
renumbered_by f Alloc = Alloc
renumbered_by f Free = Free
renumbered_by f (Jump d) = Jump d
renumbered_by f (JumpC d) = JumpC d
renumbered_by f (JumpT d) = JumpT d
renumbered_by f (JumpF d) = JumpF d
renumbered_by f (Iter d) = Iter d
renumbered_by f Next = Next
renumbered_by f (Switch n) = Switch n
renumbered_by f (SwitchX n) = SwitchX n
renumbered_by f Leave = Leave
renumbered_by f (Call p) = Call p
renumbered_by f (CallExternal l p) = CallExternal (f l) p
renumbered_by f (Enter par dat) = Enter par dat
renumbered_by f Rtn = Rtn

inner-base : (f : ℕ → ℕ) (base : Base) → outside base ≡ false → renumbered_base f base ≡ base
inner-base f Local e = refl
inner-base f Global e = refl
inner-base f Constant e = refl
inner-base f Popped e = refl
inner-base f (External l) e = absurd (false≢true (sym e))

pub inner-kept : (f : ℕ → ℕ) (i : Instruction) → is_external i ≡ false → renumbered_by f i ≡ i
inner-kept f (LoadConstant n) e = refl
inner-kept f (Load base mode n) e = rw (inner-base f base e)
inner-kept f (LoadAddress base n) e = rw (inner-base f base e)
inner-kept f (Store base mode n) e = rw (inner-base f base e)
inner-kept f (Pop n) e = refl
inner-kept f Swap e = refl
inner-kept f Nop e = refl
inner-kept f (Operate op) e = refl
inner-kept f Alloc e = refl
inner-kept f Free e = refl
inner-kept f (Jump d) e = refl
inner-kept f (JumpC d) e = refl
inner-kept f (JumpT d) e = refl
inner-kept f (JumpF d) e = refl
inner-kept f (Iter d) e = refl
inner-kept f Next e = refl
inner-kept f (Switch n) e = refl
inner-kept f (SwitchX n) e = refl
inner-kept f Leave e = refl
inner-kept f (Call p) e = refl
inner-kept f (CallExternal l p) e = absurd (false≢true (sym e))
inner-kept f (Enter par dat) e = refl
inner-kept f Rtn e = refl

-- The library number of an external instruction; 0 of all others.
abbrev pub base_library : Base → ℕ
base_library Local = 0
base_library Global = 0
base_library Constant = 0
base_library Popped = 0
base_library (External l) = l

abbrev pub library_of : Instruction → ℕ
library_of (LoadConstant n) = 0
library_of (Load base mode n) = base_library base
library_of (LoadAddress base n) = base_library base
library_of (Store base mode n) = base_library base
library_of (Pop n) = 0
library_of Swap = 0
library_of Nop = 0
library_of (Operate op) = 0
library_of Alloc = 0
library_of Free = 0
library_of (Jump d) = 0
library_of (JumpC d) = 0
library_of (JumpT d) = 0
library_of (JumpF d) = 0
library_of (Iter d) = 0
library_of Next = 0
library_of (Switch n) = 0
library_of (SwitchX n) = 0
library_of Leave = 0
library_of (Call p) = 0
library_of (CallExternal l p) = l
library_of (Enter par dat) = 0
library_of Rtn = 0
