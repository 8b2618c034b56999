-- How large the counts are: they are read off their tables.
use Prim.Native.Nat.{◌≤◌}
use native.Mathlib.Omega.{arith}
use Rattle.opcode.specs.declared.instruction.Mode.{Mode}
use Rattle.opcode.specs.declared.instruction.Mode.TheVariants.{Normal, Double}
use Rattle.opcode.specs.declared.instruction.Base.{Base}
use Rattle.opcode.specs.declared.instruction.Base.TheVariants.{Local, Global, Constant, Popped, External}
use Rattle.shape.specs.Counts.{popped, words_in}

pub popped-small : (base : Base) → popped base ≤ 1
popped-small Local = omega arith
popped-small Global = omega arith
popped-small Constant = omega arith
popped-small Popped = omega arith
popped-small (External l) = omega arith

pub words_small : (mode : Mode) → (1 ≤ words_in mode) × (words_in mode ≤ 2)
words_small Normal = (omega arith, omega arith)
words_small Double = (omega arith, omega arith)
