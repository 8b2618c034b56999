-- What an instruction does with procedures: it stays inside its own, calls one (CALL), or one of a library (CALL_E: library and
-- procedure), enters its own (ENTER) with so many parameters, or returns (RTN).
use Rattle.std.specs.Prelude.{ℕ}
use Rattle.shape.specs.declared.Shape.{Shape}
use Rattle.shape.specs.declared.Shape.TheVariants.{Straight, Pop, Jump, JumpC, JumpTF, Iter}
use Rattle.shape.specs.declared.Shape.TheVariants.{Next, Switch, Leave, Call, CallExternal, Enter, Rtn}

pub data Linkage : Type 0 where
  inside : Linkage
  calling : ℕ → Linkage
  calling_external : ℕ → ℕ → Linkage
  entering : ℕ → Linkage
  returning : Linkage

abbrev pub linkage_of : Shape → Linkage
linkage_of (Straight pops pushes) = inside
linkage_of (Pop n) = inside
linkage_of (Jump d) = inside
linkage_of (JumpC d) = inside
linkage_of (JumpTF d) = inside
linkage_of (Iter d) = inside
linkage_of Next = inside
linkage_of (Switch t n) = inside
linkage_of Leave = inside
linkage_of (Call p) = calling p
linkage_of (CallExternal l p) = calling_external l p
linkage_of (Enter par) = entering par
linkage_of Rtn = returning
