-- What a listing shows of an instruction, as numbers.
use Rattle.std.specs.Prelude.{ℕ, ◌+◌}
use Rattle.opcode.specs.declared.instruction.Mode.{Mode}
use Rattle.opcode.specs.declared.instruction.Mode.TheVariants.{Normal, Double}
use Rattle.opcode.specs.declared.instruction.Base.{Base}
use Rattle.opcode.specs.declared.instruction.Base.TheVariants.{Local, Global, Constant, Popped, External}
use Rattle.opcode.specs.declared.instruction.Arithmetic.{Arithmetic}
use Rattle.opcode.specs.declared.instruction.Arithmetic.TheVariants.{Add, Subtract, Multiply, Divide, Modulus}
use Rattle.opcode.specs.declared.instruction.Order.{Order}
use Rattle.opcode.specs.declared.instruction.Order.TheVariants.{Less, Greater, LessEqual, GreaterEqual}
use Rattle.opcode.specs.declared.instruction.SetOperation.{SetOperation}
use Rattle.opcode.specs.declared.instruction.SetOperation.TheVariants.{Union, Difference, Intersection}
use Rattle.opcode.specs.declared.instruction.SetOperation.TheVariants.{Subset, Superset, Member}
use Rattle.opcode.specs.declared.instruction.Operation.{Operation}
use Rattle.opcode.specs.declared.instruction.Operation.TheVariants.{Signed, Unsigned, Negate, Equal, NotEqual}
use Rattle.opcode.specs.declared.instruction.Operation.TheVariants.{CompareSigned, CompareUnsigned, Set, Not}
use Rattle.opcode.specs.declared.instruction.Instruction.{Instruction}
use Rattle.opcode.specs.declared.instruction.Instruction.TheVariants.{LoadConstant, Load, LoadAddress, Store, Pop, Swap, Nop}
use Rattle.opcode.specs.declared.instruction.Instruction.TheVariants.{Operate, Alloc, Free, Jump, JumpC, JumpT, JumpF, Iter}
use Rattle.opcode.specs.declared.instruction.Instruction.TheVariants.{Next, Switch, SwitchX, Leave, Call, Enter, Rtn}
use Rattle.opcode.specs.declared.instruction.Instruction.TheVariants.{CallExternal}
use Rattle.mnemonic.specs.declared.Parts.{Parts}

-- The places of mnemonics that stand in a row.
abbrev pub arithmetic_place : Arithmetic → ℕ
arithmetic_place Add = 0  -- ADD
arithmetic_place Subtract = 1  -- SUB
arithmetic_place Multiply = 2  -- MUL
arithmetic_place Divide = 3  -- DIV
arithmetic_place Modulus = 4  -- MOD

abbrev pub order_place : Order → ℕ
order_place Less = 0  -- LES
order_place Greater = 1  -- GRT
order_place LessEqual = 2  -- LEQ
order_place GreaterEqual = 3  -- GEQ

abbrev pub set_place : SetOperation → ℕ
set_place Union = 0  -- ADD_S
set_place Difference = 1  -- SUB_S
set_place Intersection = 2  -- MUL_S
set_place Subset = 3  -- LEQ_S
set_place Superset = 4  -- GEQ_S
set_place Member = 5  -- TEST

abbrev pub operation_number : Operation → ℕ
operation_number (Signed op) = 21 + arithmetic_place op  -- 21 .. 25 ADD_I, SUB_I, MUL_I, DIV_I, MOD_I
operation_number (Unsigned op) = 26 + arithmetic_place op  -- 26 .. 30 ADD_U, SUB_U, MUL_U, DIV_U, MOD_U
operation_number Negate = 31  -- NEG_I
operation_number Equal = 32  -- EQU
operation_number NotEqual = 33  -- NEQ
operation_number (CompareSigned order) = 34 + order_place order  -- 34 .. 37 LES_I, GRT_I, LEQ_I, GEQ_I
operation_number (CompareUnsigned order) = 38 + order_place order  -- 38 .. 41 LES_U, GRT_U, LEQ_U, GEQ_U
operation_number (Set op) = 42 + set_place op  -- 42 .. 47 ADD_S, SUB_S, MUL_S, LEQ_S, GEQ_S, TEST
operation_number Not = 48  -- NEG

abbrev pub mode_place : Mode → ℕ
mode_place Normal = 0
mode_place Double = 1

-- The number of the mnemonic, which all sizes of an operand share; the mode, 1 where DOUBLE stands before it; the operand and the
-- second one, 0 where there is none.
abbrev pub parts : ℕ → ℕ → ℕ → ℕ → Parts
parts number mode operand second = record { number = number; mode = mode; operand = operand; second = second }

-- What goes by a base: the mnemonics of four stand in a row; that of a library has a number of its own, and two operands.
abbrev pub based : ℕ → ℕ → Base → ℕ → ℕ → Parts
based first external Local mode n = parts first mode n 0  -- _L
based first external Global mode n = parts (first + 1) mode n 0  -- _G
based first external Constant mode n = parts (first + 2) mode n 0  -- _T
based first external Popped mode n = parts (first + 3) mode n 0  -- _F
based first external (External l) mode n = parts external mode l n  -- _E

unfoldable pub parts_of : Instruction → Parts
parts_of (LoadConstant n) = parts 0 0 n 0  -- LOAD_C
parts_of (Load base mode n) = based 1 58 base (mode_place mode) n  -- 1 .. 4 LOAD_L, LOAD_G, LOAD_T, LOAD_F; 58 LOAD_E
parts_of (LoadAddress base n) = based 5 59 base 0 n  -- 5 .. 8 LOAD_A_L, LOAD_A_G, LOAD_A_T, LOAD_A_F; 59 LOAD_A_E
parts_of (Store base mode n) = based 9 60 base (mode_place mode) n  -- 9 .. 12 STOR_L, STOR_G, (11: no STOR_T), STOR_F; 60 STOR_E
parts_of (Jump n) = parts 13 0 n 0  -- JUMP
parts_of (JumpC n) = parts 14 0 n 0  -- JUMP_C
parts_of (JumpT n) = parts 15 0 n 0  -- JUMP_T
parts_of (JumpF n) = parts 16 0 n 0  -- JUMP_F
parts_of (Call n) = parts 17 0 n 0  -- CALL
parts_of (Pop n) = parts 18 0 n 0  -- POP
parts_of Swap = parts 19 0 0 0  -- SWAP
parts_of Nop = parts 20 0 0 0  -- NOP
parts_of (Operate op) = parts (operation_number op) 0 0 0  -- 21 .. 48
parts_of Alloc = parts 49 0 0 0  -- ALLOC
parts_of Free = parts 50 0 0 0  -- FREE
parts_of (Iter n) = parts 51 0 n 0  -- ITER
parts_of Next = parts 52 0 0 0  -- NEXT
parts_of (Switch n) = parts 53 0 n 0  -- SWITCH
parts_of (SwitchX n) = parts 54 0 n 0  -- SWITCH_X
parts_of Leave = parts 55 0 0 0  -- LEAVE
parts_of (Enter n k) = parts 56 0 n k  -- ENTER
parts_of Rtn = parts 57 0 0 0  -- RTN
parts_of (CallExternal l n) = parts 61 0 l n  -- CALL_E
