-- How many words an access moves, a base pops and an operation takes.
use Rattle.std.specs.Prelude.{ℕ}
use Rattle.opcode.specs.declared.instruction.Mode.{Mode}
use Rattle.opcode.specs.declared.instruction.Mode.TheVariants.{Normal, Double}
use Rattle.opcode.specs.declared.instruction.Base.{Base}
use Rattle.opcode.specs.declared.instruction.Base.TheVariants.{Local, Global, Constant, Popped, External}
use Rattle.opcode.specs.declared.instruction.Operation.{Operation}
use Rattle.opcode.specs.declared.instruction.Operation.TheVariants.{Signed, Unsigned, Negate, Equal, NotEqual}
use Rattle.opcode.specs.declared.instruction.Operation.TheVariants.{CompareSigned, CompareUnsigned, Set, Not}

-- How many words an access moves.
abbrev pub words_in : Mode → ℕ
words_in Normal = 1
words_in Double = 2

-- The address word that a base pops.
abbrev pub popped : Base → ℕ
popped Local = 0
popped Global = 0
popped Constant = 0
popped Popped = 1
popped (External l) = 0

-- The words that an operation takes, of which one comes in their place.
abbrev pub operands : Operation → ℕ
operands (Signed op) = 2  -- [ val, val => val ]
operands (Unsigned op) = 2  -- [ val, val => val ]
operands Negate = 1  -- [ val => val ]
operands Equal = 2  -- [ val, val => bool ]
operands NotEqual = 2  -- [ val, val => bool ]
operands (CompareSigned order) = 2  -- [ val, val => bool ]
operands (CompareUnsigned order) = 2  -- [ val, val => bool ]
operands (Set op) = 2  -- [ set, set => set ], LEQ_S, GEQ_S [ set, set => bool ], TEST [ num, set => bool ]
operands Not = 1  -- [ bool => bool ]
