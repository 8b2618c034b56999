-- The shape of an instruction with another library number: a call to a library has the other number, all else stays. And which
-- shapes external instructions have. By the instructions, one a line.
use mathlib.Core.Bool.{Bool, true, false, false≢true}
use mathlib.Core.Path.{◌≡◌, ◌∙◌, refl, sym}
use Prim.Native.Nat.{ℕ}
use Rattle.opcode.specs.declared.instruction.Base.{Base}
use Rattle.opcode.specs.declared.instruction.Base.TheVariants.{Local, Global, Constant, Popped, External}
use Rattle.opcode.specs.declared.instruction.Instruction.{Instruction}
use Rattle.opcode.specs.declared.instruction.Instruction.TheVariants.{LoadConstant, Load, LoadAddress, Store, Pop, Swap, Nop}
use Rattle.opcode.specs.declared.instruction.Instruction.TheVariants.{Operate, Alloc, Free, Jump, JumpC, JumpT, JumpF, Iter}
use Rattle.opcode.specs.declared.instruction.Instruction.TheVariants.{Next, Switch, SwitchX, Leave, Call, CallExternal}
use Rattle.opcode.specs.declared.instruction.Instruction.TheVariants.{Enter, Rtn}
use Rattle.shape.specs.Counts.{popped}
use Rattle.shape.specs.Shape.{shape_of}
use Rattle.shape.specs.declared.Shape.{Shape}
use Rattle.shape.specs.declared.Shape.TheVariants as shape
use Rattle.relocation.specs.Places.{is_external}
use Rattle.relocated.proofs.Renumbering.{renumbered_base, renumbered_by, library_of}

abbrev pub shape_by : (ℕ → ℕ) → Shape → Shape
shape_by f (shape.Straight pops pushes) = shape.Straight pops pushes
shape_by f (shape.Pop n) = shape.Pop n
shape_by f (shape.Jump d) = shape.Jump d
shape_by f (shape.JumpC d) = shape.JumpC d
shape_by f (shape.JumpTF d) = shape.JumpTF d
shape_by f (shape.Iter d) = shape.Iter d
shape_by f shape.Next = shape.Next
shape_by f (shape.Switch t n) = shape.Switch t n
shape_by f shape.Leave = shape.Leave
shape_by f (shape.Call p) = shape.Call p
shape_by f (shape.CallExternal l p) = shape.CallExternal (f l) p
shape_by f (shape.Enter par) = shape.Enter par
shape_by f shape.Rtn = shape.Rtn

popped-same : (f : ℕ → ℕ) (base : Base) → popped (renumbered_base f base) ≡ popped base
popped-same f Local = refl
popped-same f Global = refl
popped-same f Constant = refl
popped-same f Popped = refl
popped-same f (External l) = refl

pub renumbered-shape : (f : ℕ → ℕ) (i : Instruction) → shape_of (renumbered_by f i) ≡ shape_by f (shape_of i)
unfolding shape_of
renumbered-shape f (LoadConstant n) = refl
renumbered-shape f (Load base mode n) = rw (popped-same f base)
renumbered-shape f (LoadAddress base n) = rw (popped-same f base)
renumbered-shape f (Store base mode n) = rw (popped-same f base)
renumbered-shape f (Pop n) = refl
renumbered-shape f Swap = refl
renumbered-shape f Nop = refl
renumbered-shape f (Operate op) = refl
renumbered-shape f Alloc = refl
renumbered-shape f Free = refl
renumbered-shape f (Jump d) = refl
renumbered-shape f (JumpC d) = refl
renumbered-shape f (JumpT d) = refl
renumbered-shape f (JumpF d) = refl
renumbered-shape f (Iter d) = refl
renumbered-shape f Next = refl
renumbered-shape f (Switch n) = refl
renumbered-shape f (SwitchX n) = refl
renumbered-shape f Leave = refl
renumbered-shape f (Call p) = refl
renumbered-shape f (CallExternal l p) = refl
renumbered-shape f (Enter par dat) = refl
renumbered-shape f Rtn = refl

-- A call to a library is an external instruction with its number.
pub calls-library : (i : Instruction) (l p : ℕ) → shape_of i ≡ shape.CallExternal l p → (is_external i ≡ true) × (library_of i ≡ l)
unfolding shape_of
calls-library (LoadConstant n) l p e = (cc, cc)
calls-library (Load base mode n) l p e = (cc, cc)
calls-library (LoadAddress base n) l p e = (cc, cc)
calls-library (Store base mode n) l p e = (cc, cc)
calls-library (Pop n) l p e = (cc, cc)
calls-library Swap l p e = (cc, cc)
calls-library Nop l p e = (cc, cc)
calls-library (Operate op) l p e = (cc, cc)
calls-library Alloc l p e = (cc, cc)
calls-library Free l p e = (cc, cc)
calls-library (Jump d) l p e = (cc, cc)
calls-library (JumpC d) l p e = (cc, cc)
calls-library (JumpT d) l p e = (cc, cc)
calls-library (JumpF d) l p e = (cc, cc)
calls-library (Iter d) l p e = (cc, cc)
calls-library Next l p e = (cc, cc)
calls-library (Switch n) l p e = (cc, cc)
calls-library (SwitchX n) l p e = (cc, cc)
calls-library Leave l p e = (cc, cc)
calls-library (Call q) l p e = (cc, cc)
calls-library (CallExternal k q) l p e = (refl, cc)
calls-library (Enter par dat) l p e = (cc, cc)
calls-library Rtn l p e = (cc, cc)

-- The shapes of external instructions.
abbrev pub leads : Shape → Bool
leads (shape.Straight pops pushes) = true
leads (shape.Pop n) = false
leads (shape.Jump d) = false
leads (shape.JumpC d) = false
leads (shape.JumpTF d) = false
leads (shape.Iter d) = false
leads shape.Next = false
leads (shape.Switch t n) = false
leads shape.Leave = false
leads (shape.Call p) = false
leads (shape.CallExternal l p) = true
leads (shape.Enter par) = false
leads shape.Rtn = false

external-leads : (i : Instruction) → is_external i ≡ true → leads (shape_of i) ≡ true
unfolding shape_of
external-leads (LoadConstant n) e = refl
external-leads (Load base mode n) e = refl
external-leads (LoadAddress base n) e = refl
external-leads (Store base mode n) e = refl
external-leads (Pop n) e = e
external-leads Swap e = refl
external-leads Nop e = refl
external-leads (Operate op) e = refl
external-leads Alloc e = refl
external-leads Free e = refl
external-leads (Jump d) e = e
external-leads (JumpC d) e = e
external-leads (JumpT d) e = e
external-leads (JumpF d) e = e
external-leads (Iter d) e = e
external-leads Next e = e
external-leads (Switch n) e = e
external-leads (SwitchX n) e = e
external-leads Leave e = e
external-leads (Call p) e = e
external-leads (CallExternal l p) e = refl
external-leads (Enter par dat) e = e
external-leads Rtn e = e

-- So an instruction of any other shape is none.
pub other-inner : (i : Instruction) (s : Shape) → shape_of i ≡ s → leads s ≡ false → is_external i ≡ false
other-inner i s e k = by (is_external i) refl
  where
    by : (b : Bool) → is_external i ≡ b → b ≡ false
    by true x = absurd (false≢true (sym k ∙ (rw e at (external-leads i x))))
    by false x = refl
