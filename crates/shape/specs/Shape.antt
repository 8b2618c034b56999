-- The shape of an instruction: what check and step need to know of its words. What takes and gives words alone and goes on is one shape; what
-- jumps, makes or uses a label, calls or returns has its own.
use Rattle.std.specs.Prelude.{ℕ, ◌+◌}
use Rattle.opcode.specs.declared.instruction.Instruction.{Instruction}
use Rattle.opcode.specs.declared.instruction.Instruction.TheVariants.{LoadConstant, Load, LoadAddress, Store, Pop, Swap, Nop}
use Rattle.opcode.specs.declared.instruction.Instruction.TheVariants.{Operate, Alloc, Free, Jump, JumpC, JumpT, JumpF, Iter}
use Rattle.opcode.specs.declared.instruction.Instruction.TheVariants.{Next, Switch, SwitchX, Leave, Call, Enter, Rtn}
use Rattle.opcode.specs.declared.instruction.Instruction.TheVariants.{CallExternal}
use Rattle.shape.specs.declared.Shape.{Shape}
use Rattle.shape.specs.declared.Shape.TheVariants as shape
use Rattle.shape.specs.declared.Shape.TheVariants.{Straight}
use Rattle.shape.specs.declared.Table.TheVariants.{Branches, Ranges}
use Rattle.shape.specs.Counts.{popped, words_in, operands}

-- Beside each line the manual's brackets; a two-word value counts two.
unfoldable pub shape_of : Instruction → Shape
shape_of (LoadConstant n) = Straight 0 1  -- [ => val ]
shape_of (Load base mode n) = Straight (popped base) (words_in mode)  -- [ => val ], LOAD_F [ adr => val ]
shape_of (LoadAddress base n) = Straight (popped base) 1  -- [ => adr ], LOAD_A_F [ adr => adr ]
shape_of (Store base mode n) = Straight (popped base + words_in mode) 0  -- [ val => ], STOR_F [ adr, val => ]
shape_of (Pop n) = shape.Pop n  -- [ val (,...) => ]
shape_of Swap = Straight 2 2  -- [ val, val => val, val ]
shape_of Nop = Straight 0 0
shape_of (Operate op) = Straight (operands op) 1  -- [ val, val => val ], or as in Counts
shape_of Alloc = Straight 1 1  -- [ size => adr ]
shape_of Free = Straight 1 0  -- [ size => ]
shape_of (Jump d) = shape.Jump d  -- [ ]
shape_of (JumpC d) = shape.JumpC d  -- [ bool => ]
shape_of (JumpT d) = shape.JumpTF d  -- [ bool => (bool) ]
shape_of (JumpF d) = shape.JumpTF d  -- [ bool => (bool) ]
shape_of (Iter d) = shape.Iter d  -- [ adr, first, last, step => (adr, first, last, step, label) ]
shape_of Next = shape.Next  -- [ adr, first, last, step, label => (adr, first, last, step, label) ]
shape_of (Switch n) = shape.Switch Branches n  -- [ val => label ]
shape_of (SwitchX n) = shape.Switch Ranges n  -- [ val => label ]
shape_of Leave = shape.Leave  -- [ label => ]
shape_of (Call p) = shape.Call p  -- [ ]
shape_of (CallExternal l p) = shape.CallExternal l p  -- [ ]
shape_of (Enter par dat) = shape.Enter par  -- [ val, ..., val => ]
shape_of Rtn = shape.Rtn  -- [ ]

-- How many words an instruction of a shape finds: the manual's brackets, left of "=>"; POP n and ENTER go by their operand.
abbrev pub finds : Shape → ℕ
finds (Straight pops pushes) = pops
finds (shape.Pop n) = n
finds (shape.Jump d) = 0
finds (shape.JumpC d) = 1
finds (shape.JumpTF d) = 1
finds (shape.Iter d) = 4
finds shape.Next = 5
finds (shape.Switch t n) = 1
finds shape.Leave = 1
finds (shape.Call p) = 0
finds (shape.CallExternal l p) = 0
finds (shape.Enter par) = par
finds shape.Rtn = 0

abbrev pub needed : Instruction → ℕ
needed i = finds (shape_of i)
