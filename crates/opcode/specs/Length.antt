-- How long an instruction is.
use Rattle.std.specs.Prelude.{cond, List, ℕ, ◌+◌, eqb}
use Rattle.words.specs.Bytes.{byte_at}
use Rattle.operand.specs.Operand.{extent}
use Rattle.opcode.specs.Table.{Row, row, unserved, row_of, allows}
use Rattle.opcode.specs.Codes.{double_code}
use Rattle.opcode.specs.declared.instruction.Mode.{Mode}
use Rattle.opcode.specs.declared.instruction.Mode.TheVariants.{Normal, Double}

-- The bytes of the instruction whose code byte stands at `at`, without a prefix; 0 where it is not served in the mode.
abbrev pub length_of : Row → Mode → List ℕ → ℕ → ℕ
length_of unserved m code at = 0
length_of (row operands modes make) m code at = cond (allows modes m) (extent operands code at) 0

unfoldable pub length_in : Mode → List ℕ → ℕ → ℕ
length_in m code at = length_of (row_of (byte_at code at)) m code at

-- The length with a prefix: 01, "prefix and instruction are one instruction".
abbrev pub prefixed : ℕ → ℕ
prefixed n = cond (eqb n 0) 0 (1 + n)

unfoldable pub length_at : List ℕ → ℕ → ℕ
length_at code at =
    cond (eqb (byte_at code at) double_code) (prefixed (length_in Double code (at + 1))) (length_in Normal code at)
