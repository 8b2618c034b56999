-- Decoding. 01, "Within a step: first byte (21), code and mode (20), the other bytes (21)"; the same within a region for the
-- check (11, 10, 11). "A DOUBLE that ends its region is 11, one that ends the code is 21 in a run."
use Rattle.std.specs.Prelude.{cond, Result, List, ℕ, ◌+◌, eqb, ltb, leb}
use Rattle.words.specs.Bytes.{byte_at}
use Rattle.operand.specs.Operand.{operand, operand2}
use Rattle.opcode.specs.Table.{Row, row, unserved, row_of}
use Rattle.opcode.specs.Codes.{double_code}
use Rattle.opcode.specs.Length.{length_in}
use Rattle.opcode.specs.declared.DecodeError.{DecodeError}
use Rattle.opcode.specs.declared.DecodeError.TheVariants.{Unserved, Past}
use Rattle.std.specs.Prelude.{Err, Ok}
use Rattle.opcode.specs.declared.instruction.Mode.{Mode}
use Rattle.opcode.specs.declared.instruction.Mode.TheVariants.{Normal, Double}
use Rattle.opcode.specs.declared.instruction.Instruction.{Instruction}
use Rattle.opcode.specs.declared.instruction.Instruction.TheVariants.{Nop}

-- The instruction that a row makes of the operands behind the code byte at `at`; NOP for an unserved one, which decoding never hands
-- on.
abbrev pub made : Row → Mode → List ℕ → ℕ → Instruction
made unserved m code at = Nop
made (row operands modes make) m code at = make m (operand operands code at) (operand2 operands code at)

unfoldable pub instruction_at : Mode → List ℕ → ℕ → Instruction
instruction_at m code at = made (row_of (byte_at code at)) m code at

-- The check's numbers: 10 is "unserved instruction, or prefix before one without that mode", 11 "instruction runs past its region".
abbrev pub undecoded_number : DecodeError → ℕ
undecoded_number Unserved = 10
undecoded_number Past = 11

-- The traps of a step: 20 is "unserved", 21 "offset or bytes outside the code".
abbrev pub undecoded_trap : DecodeError → ℕ
undecoded_trap Unserved = 20
undecoded_trap Past = 21

-- What decoding gives: the instruction and the place after it, or why there is none.
abbrev pub Decoded : Type 0
Decoded = Result (Instruction × ℕ) DecodeError

-- Its number; an instruction has none.
abbrev pub decoded_number : Decoded → ℕ
decoded_number (Err e) = undecoded_number e
decoded_number (Ok d) = 0

-- The code byte at `at` is below the limit: code and mode, then the other bytes.
unfoldable pub decode_in : Mode → List ℕ → ℕ → ℕ → Decoded
decode_in m code limit at =
    cond (eqb (length_in m code at) 0) (Err Unserved)
    (cond (leb (at + length_in m code at) limit) (Ok (instruction_at m code at, at + length_in m code at)) (Err Past))

-- The instruction at a place, within a limit; bytes past the end of the list read as 0.
unfoldable pub decode_at : List ℕ → ℕ → ℕ → Decoded
decode_at code limit at =
    cond (ltb at limit)
    (cond (eqb (byte_at code at) double_code) (cond (ltb (at + 1) limit) (decode_in Double code limit (at + 1)) (Err Past))
    (decode_in Normal code limit at))
    (Err Past)
