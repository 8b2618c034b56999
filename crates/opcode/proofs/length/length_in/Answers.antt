-- `length::length_in` meets its contract: in normal mode by the whole entry, behind DOUBLE by its mark and the fixed length.
use mathlib.Core.Path.{◌≡◌, sym}
use Rattle.opcode.proofs.Formats.{length_none, double-some}
use Rattle.words.specs.Bytes.{byte_at}
use Rattle.opcode.specs.Sheet.{sheet_of}
use Rattle.opcode.proofs.length.length_in.Goals.{After-format_of-format}
use Rattle.opcode.proofs.length.length_in.Goals as goal

found :
    (c : After-format_of-format) →
    let a = c.args in
    c.format_of-format.result ≡ sheet_of (byte_at a.code.now a.at)
found c = rw (← c.byte_at.ensures) c.format_of-format.ensures

pub normal_length-requires : goal.normal_length-requires
normal_length-requires c = found (goal.at.normal_length-requires c).After-format_of-format

pub returns-then-format-eq0 : goal.returns-then-format-eq0
returns-then-format-eq0 c = rw c.in-Double.is (sym (length_none _ _ _ (found
    (goal.at.returns-then-format-eq0 c).After-format_of-format) c.if-format-eq0.true))

pub returns-in-Normal : goal.returns-in-Normal
returns-in-Normal c = rw c.in-Normal.is c.normal_length.ensures

pub returns-else-format-eq0 : goal.returns-else-format-eq0
returns-else-format-eq0 c = rw c.in-Double.is (sym (double-some _ _ _ (found
    (goal.at.returns-else-format-eq0 c).After-format_of-format) c.if-format-eq0.false))
