-- Codes and operands that stand in the table and that other definitions name too: the prefix DOUBLE (01: "prefix"), what pushes labels,
-- and ENTER.
use Rattle.std.specs.Prelude.{ℕ}
use Rattle.operand.specs.Operand.{Operands, unsigned, bytes, h}

abbrev pub double_code : ℕ
double_code = 0xF5

abbrev pub iter_code : ℕ
iter_code = 0xE0

abbrev pub switch_code : ℕ
switch_code = 0xE2

abbrev pub switch_x_code : ℕ
switch_x_code = 0xE3

abbrev pub iter_operands : Operands
iter_operands = unsigned h

abbrev pub enter_operands : Operands
enter_operands = bytes
