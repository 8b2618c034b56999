-- `FormatSheet::format_of` meets its contract: the table is the sheet, and a byte is one of its 256 codes.
use native.Mathlib.Omega.{arith}
use Rattle.opcode.proofs.format.FormatSheet.format_of.Goals as goal

pub bounds-self-opcode : goal.bounds-self-opcode
bounds-self-opcode c = omega (arith, c.args.self.sheet.size)

pub returns : goal.returns
returns c = c.args.self.sheet.entries c.args.opcode (omega arith)
