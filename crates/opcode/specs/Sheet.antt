-- K6: "a printed sheet of 256 fixed lengths, with switches, prefixes and unserved codes marked". An entry is a number: the fixed
-- bytes, and added to them the marks. 0 is an unserved code.
use Rattle.std.specs.Prelude.{cond, ◌≡◌, List, ℕ, ◌+◌, ◌*◌, ◌<◌, eqb, length, get_or}
use Rattle.operand.specs.Operand.{fixed_of, each_of}
use Rattle.opcode.specs.Table.{Row, row, unserved, row_of, Modes, normal, both}
use Rattle.opcode.specs.Codes.{double_code}

-- DOUBLE may stand before it.
abbrev pub double_mark : Modes → ℕ
double_mark normal = 0
double_mark both = 16

-- A switch is marked with 32 for each byte that one more entry of its table takes.
abbrev pub format_of : Row → ℕ
format_of unserved = 0
format_of (row operands modes make) = fixed_of operands + double_mark modes + 32 * each_of operands

abbrev pub prefix_mark : ℕ
prefix_mark = 32768

-- What the sheet has at a code; a prefix is one byte.
unfoldable pub sheet_of : ℕ → ℕ
sheet_of code = cond (eqb code double_code) (prefix_mark + 1) (format_of (row_of code))

-- K6: "one statement over all 256 codes holds the table to 5.2.4".
pub record Sheet (t : List ℕ) : Type 0 where
  pub size : length t ≡ 256
  pub entries : (code : ℕ) → code < 256 → get_or t code 0 ≡ sheet_of code
