-- The served codes, as 5.2.4 lists them and 01 ("What the machine serves at first") picks them, and 02 (K1: "Serve LOAD_E, STOR_E,
-- LOAD_A_E and CALL_E"); what stands in no table is unserved. Misprints of the manual: docs/DECISIONS.md.
use Rattle.std.specs.Prelude.{Bool, true, false, cond, List, [], ◌∷◌, ℕ, ◌/◌, eqb, ltb}
use Rattle.operand.specs.Operand.{Operands, none, digit, unsigned, signed, bytes, table, b, h, w}
use Rattle.opcode.specs.Codes.{iter_code, switch_code, switch_x_code, iter_operands, enter_operands}
use Rattle.opcode.specs.declared.instruction.Mode.{Mode}
use Rattle.opcode.specs.declared.instruction.Mode.TheVariants.{Normal, Double}
use Rattle.opcode.specs.declared.instruction.Base.TheVariants.{Local, Global, Constant, Popped, External}
use Rattle.opcode.specs.declared.instruction.Arithmetic.TheVariants.{Add, Subtract, Multiply, Divide, Modulus}
use Rattle.opcode.specs.declared.instruction.Order.TheVariants.{Less, Greater, LessEqual, GreaterEqual}
use Rattle.opcode.specs.declared.instruction.SetOperation.TheVariants.{Union, Difference, Intersection}
use Rattle.opcode.specs.declared.instruction.SetOperation.TheVariants.{Subset, Superset, Member}
use Rattle.opcode.specs.declared.instruction.Operation.TheVariants.{Signed, Unsigned, Negate, Equal, NotEqual}
use Rattle.opcode.specs.declared.instruction.Operation.TheVariants.{CompareSigned, CompareUnsigned, Set, Not}
use Rattle.opcode.specs.declared.instruction.Instruction.{Instruction}
use Rattle.opcode.specs.declared.instruction.Instruction.TheVariants.{LoadConstant, Load, LoadAddress, Store, Pop, Swap}
use Rattle.opcode.specs.declared.instruction.Instruction.TheVariants.{Nop, Operate, Alloc, Free, Jump, JumpC}
use Rattle.opcode.specs.declared.instruction.Instruction.TheVariants.{JumpT, JumpF, Iter, Next, Switch, SwitchX}
use Rattle.opcode.specs.declared.instruction.Instruction.TheVariants.{Leave, Call, CallExternal, Enter, Rtn}

-- The modes that a code is served in. 01: "DOUBLE stands only before LOAD_L, _G, _F, _T, STOR_L, _G, _F".
pub data Modes : Type 0 where
  normal both : Modes

abbrev pub allows : Modes → Mode → Bool
allows both m = true
allows normal Normal = true
allows normal Double = false

-- Operands, modes, and the instruction that mode and operands make; or unserved.
pub data Row : Type 0 where
  row : Operands → Modes → (Mode → ℕ → ℕ → Instruction) → Row
  unserved : Row

pub data Entry : Type 0 where
  entry : ℕ → Row → Entry

-- 5.2.4.1, by the first digit of the code.
abbrev pub short_table : List Entry
short_table =
    entry 0 (row digit normal (λ m n k. LoadConstant n)) ∷  -- 00 .. 0F LOAD_C.0 .. LOAD_C.15
    entry 1 (row digit both (λ m n k. Load Local m n)) ∷  -- 10 .. 1F LOAD_L.0 .. LOAD_L.15
    entry 2 (row digit both (λ m n k. Load Global m n)) ∷  -- 20 .. 2F LOAD_G.0 .. LOAD_G.15
    entry 3 (row digit both (λ m n k. Load Popped m n)) ∷  -- 30 .. 3F LOAD_F.0 .. LOAD_F.15
    entry 4 (row digit both (λ m n k. Store Local m n)) ∷  -- 40 .. 4F STOR_L.0 .. STOR_L.15
    entry 5 (row digit both (λ m n k. Store Global m n)) ∷  -- 50 .. 5F STOR_G.0 .. STOR_G.15
    entry 6 (row digit both (λ m n k. Store Popped m n)) ∷  -- 60 .. 6F STOR_F.0 .. STOR_F.15
    entry 7 (row digit normal (λ m n k. Call n)) ∷  -- 71 .. 7F CALL.1 .. CALL.15
    []

-- 5.2.4.2 to 5.2.4.6: load, load address, store, stack.
abbrev pub data_table : List Entry
data_table =
    entry 0x80 (row (unsigned b) both (λ m n k. Load Constant m n)) ∷  -- LOAD_T.b offs
    entry 0x81 (row (unsigned h) both (λ m n k. Load Constant m n)) ∷  -- LOAD_T.h offs
    entry 0x82 (row (signed b) normal (λ m n k. LoadConstant n)) ∷  -- LOAD_C.b val
    entry 0x83 (row (signed h) normal (λ m n k. LoadConstant n)) ∷  -- LOAD_C.h val
    entry 0x84 (row (signed w) normal (λ m n k. LoadConstant n)) ∷  -- LOAD_C.w val
    entry 0x85 (row (unsigned b) both (λ m n k. Load Local m n)) ∷  -- LOAD_L.b adr
    entry 0x86 (row (unsigned b) both (λ m n k. Load Global m n)) ∷  -- LOAD_G.b adr
    entry 0x87 (row (unsigned b) both (λ m n k. Load Popped m n)) ∷  -- LOAD_F.b offs
    entry 0x88 (row (unsigned h) both (λ m n k. Load Popped m n)) ∷  -- LOAD_F.h offs
    entry 0x89 (row bytes normal (λ m n k. Load (External n) m k)) ∷  -- LOAD_E lib, adr
    entry 0x8D (row (unsigned b) normal (λ m n k. LoadAddress Local n)) ∷  -- LOAD_A_L.b adr
    entry 0x8E (row (unsigned b) normal (λ m n k. LoadAddress Global n)) ∷  -- LOAD_A_G.b adr
    entry 0x8F (row (unsigned b) normal (λ m n k. LoadAddress Popped n)) ∷  -- LOAD_A_F.b offs
    entry 0x90 (row (unsigned h) normal (λ m n k. LoadAddress Popped n)) ∷  -- LOAD_A_F.h offs
    entry 0x91 (row bytes normal (λ m n k. LoadAddress (External n) k)) ∷  -- LOAD_A_E lib, adr
    entry 0x92 (row (unsigned b) normal (λ m n k. LoadAddress Constant n)) ∷  -- LOAD_A_T.b offs
    entry 0x93 (row (unsigned h) normal (λ m n k. LoadAddress Constant n)) ∷  -- LOAD_A_T.h offs
    entry 0x94 (row (unsigned b) both (λ m n k. Store Local m n)) ∷  -- STOR_L.b adr
    entry 0x95 (row (unsigned b) both (λ m n k. Store Global m n)) ∷  -- STOR_G.b adr
    entry 0x96 (row (unsigned b) both (λ m n k. Store Popped m n)) ∷  -- STOR_F.b offs
    entry 0x97 (row (unsigned h) both (λ m n k. Store Popped m n)) ∷  -- STOR_F.h offs
    entry 0x98 (row bytes normal (λ m n k. Store (External n) m k)) ∷  -- STOR_E lib, adr
    entry 0x9E (row (unsigned b) normal (λ m n k. Pop n)) ∷  -- POP n
    entry 0x9F (row none normal (λ m n k. Swap)) ∷  -- SWAP
    []

-- 5.2.4.7 to 5.2.4.10: numerical, comparison, boolean, allocation.
abbrev pub operation_table : List Entry
operation_table =
    entry 0xA0 (row none normal (λ m n k. Operate (Signed Add))) ∷  -- ADD_I
    entry 0xA1 (row none normal (λ m n k. Operate (Signed Subtract))) ∷  -- SUB_I
    entry 0xA2 (row none normal (λ m n k. Operate (Signed Multiply))) ∷  -- MUL_I
    entry 0xA3 (row none normal (λ m n k. Operate (Signed Divide))) ∷  -- DIV_I
    entry 0xA5 (row none normal (λ m n k. Operate (Signed Modulus))) ∷  -- MOD_I
    entry 0xA6 (row none normal (λ m n k. Operate Negate)) ∷  -- NEG_I
    entry 0xA8 (row none normal (λ m n k. Operate (Unsigned Add))) ∷  -- ADD_U
    entry 0xA9 (row none normal (λ m n k. Operate (Unsigned Subtract))) ∷  -- SUB_U
    entry 0xAA (row none normal (λ m n k. Operate (Unsigned Multiply))) ∷  -- MUL_U
    entry 0xAB (row none normal (λ m n k. Operate (Unsigned Divide))) ∷  -- DIV_U
    entry 0xAD (row none normal (λ m n k. Operate (Unsigned Modulus))) ∷  -- MOD_U
    entry 0xB8 (row none normal (λ m n k. Operate (Set Union))) ∷  -- ADD_S
    entry 0xB9 (row none normal (λ m n k. Operate (Set Difference))) ∷  -- SUB_S
    entry 0xBA (row none normal (λ m n k. Operate (Set Intersection))) ∷  -- MUL_S
    entry 0xBE (row none normal (λ m n k. Operate Equal)) ∷  -- EQU
    entry 0xBF (row none normal (λ m n k. Operate NotEqual)) ∷  -- NEQ
    entry 0xC0 (row none normal (λ m n k. Operate (CompareSigned Less))) ∷  -- LES_I
    entry 0xC1 (row none normal (λ m n k. Operate (CompareSigned Greater))) ∷  -- GRT_I
    entry 0xC2 (row none normal (λ m n k. Operate (CompareSigned LessEqual))) ∷  -- LEQ_I
    entry 0xC3 (row none normal (λ m n k. Operate (CompareSigned GreaterEqual))) ∷  -- GEQ_I
    entry 0xC4 (row none normal (λ m n k. Operate (CompareUnsigned Less))) ∷  -- LES_U
    entry 0xC5 (row none normal (λ m n k. Operate (CompareUnsigned Greater))) ∷  -- GRT_U
    entry 0xC6 (row none normal (λ m n k. Operate (CompareUnsigned LessEqual))) ∷  -- LEQ_U
    entry 0xC7 (row none normal (λ m n k. Operate (CompareUnsigned GreaterEqual))) ∷  -- GEQ_U
    entry 0xD0 (row none normal (λ m n k. Operate (Set Subset))) ∷  -- LEQ_S
    entry 0xD1 (row none normal (λ m n k. Operate (Set Superset))) ∷  -- GEQ_S
    entry 0xD2 (row none normal (λ m n k. Operate (Set Member))) ∷  -- TEST
    entry 0xD7 (row none normal (λ m n k. Operate Not)) ∷  -- NEG
    entry 0xD8 (row none normal (λ m n k. Alloc)) ∷  -- ALLOC
    entry 0xD9 (row none normal (λ m n k. Free)) ∷  -- FREE
    []

-- 5.2.4.11 to 5.2.4.18: jumps, loops, switches, calls, no operation.
abbrev pub control_table : List Entry
control_table =
    entry 0xDA (row (signed b) normal (λ m n k. Jump n)) ∷  -- JUMP.b dist
    entry 0xDB (row (signed h) normal (λ m n k. Jump n)) ∷  -- JUMP.h dist
    entry 0xDC (row (signed b) normal (λ m n k. JumpC n)) ∷  -- JUMP_C.b dist
    entry 0xDD (row (signed h) normal (λ m n k. JumpC n)) ∷  -- JUMP_C.h dist
    entry 0xDE (row (unsigned b) normal (λ m n k. JumpT n)) ∷  -- JUMP_T.b dist
    entry 0xDF (row (unsigned b) normal (λ m n k. JumpF n)) ∷  -- JUMP_F.b dist
    entry iter_code (row iter_operands normal (λ m n k. Iter n)) ∷  -- E0 ITER dist
    entry 0xE1 (row none normal (λ m n k. Next)) ∷  -- NEXT
    entry switch_code (row (table 9 2) normal (λ m n k. Switch n)) ∷  -- E2 SWITCH n
    entry switch_x_code (row (table 7 10) normal (λ m n k. SwitchX n)) ∷  -- E3 SWITCH_X n
    entry 0xE4 (row none normal (λ m n k. Leave)) ∷  -- LEAVE
    entry 0xE5 (row (unsigned b) normal (λ m n k. Call n)) ∷  -- CALL.b proc
    entry 0xE6 (row bytes normal (λ m n k. CallExternal n k)) ∷  -- CALL_E lib, proc
    entry 0xE8 (row enter_operands normal (λ m n k. Enter n k)) ∷  -- ENTER par, dat
    entry 0xE9 (row none normal (λ m n k. Rtn)) ∷  -- RTN
    entry 0xFF (row none normal (λ m n k. Nop)) ∷  -- NOP
    []

abbrev pub find : List Entry → ℕ → Row
find [] key = unserved
find (entry k r ∷ rest) key = cond (eqb key k) r (find rest key)

-- The row of a code. 5.2.4.1: "There is no CALL.0 instruction", code 70.
unfoldable pub row_of : ℕ → Row
row_of code =
    cond (eqb code 0x70) unserved
    (cond (ltb code 0x80) (find short_table (code / 16))
    (cond (ltb code 0xA0) (find data_table code)
    (cond (ltb code 0xDA) (find operation_table code) (find control_table code))))
