-- `build::control_form` meets its contract: each code finds its row; the rest is NOP, or a code that is none of them.
use lib.ListN.{take, drop}
use lib.Dec.{eqb}
use Rattle.opcode.proofs.Rows.{find-rest, rest-nop}
use Rattle.opcode.specs.Table.{control_table}
use Rattle.opcode.proofs.build.control_form.Goals as goal

pub returns-in-218 : goal.returns-in-218
returns-in-218 c = rw (← c.byte_at-opcode.ensures, c.in-218.is, c.signed_byte.ensures)

pub returns-in-219 : goal.returns-in-219
returns-in-219 c = rw (← c.byte_at-opcode.ensures, c.in-219.is, c.signed_halfword.ensures)

pub returns-in-220 : goal.returns-in-220
returns-in-220 c = rw (← c.byte_at-opcode.ensures, c.in-220.is, c.signed_byte-in-220.ensures)

pub returns-in-221 : goal.returns-in-221
returns-in-221 c = rw (← c.byte_at-opcode.ensures, c.in-221.is, c.signed_halfword-in-221.ensures)

pub returns-in-222 : goal.returns-in-222
returns-in-222 c = rw (← c.byte_at-opcode.ensures, c.in-222.is, c.unsigned_byte.ensures)

pub returns-in-223 : goal.returns-in-223
returns-in-223 c = rw (← c.byte_at-opcode.ensures, c.in-223.is, c.unsigned_byte-in-223.ensures)

pub returns-in-224 : goal.returns-in-224
returns-in-224 c = rw (← c.byte_at-opcode.ensures, c.in-224.is, c.unsigned_halfword.ensures)

pub returns-in-225 : goal.returns-in-225
returns-in-225 c = rw (← c.byte_at-opcode.ensures, c.in-225.is)

pub returns-in-226 : goal.returns-in-226
returns-in-226 c = rw (← c.byte_at-opcode.ensures, c.in-226.is, c.unsigned_halfword-in-226.ensures)

pub returns-in-227 : goal.returns-in-227
returns-in-227 c = rw (← c.byte_at-opcode.ensures, c.in-227.is, c.unsigned_halfword-in-227.ensures)

pub returns-in-228 : goal.returns-in-228
returns-in-228 c = rw (← c.byte_at-opcode.ensures, c.in-228.is)

pub returns-in-229 : goal.returns-in-229
returns-in-229 c = rw (← c.byte_at-opcode.ensures, c.in-229.is, c.unsigned_byte-in-229.ensures)

pub returns-in-230 : goal.returns-in-230
returns-in-230 c =
    rw (
      ← c.byte_at-opcode.ensures,
      c.in-230.is,
      c.unsigned_byte-in-230.ensures,
      c.second_byte.ensures,
    )

pub returns-in-232 : goal.returns-in-232
returns-in-232 c =
    rw (
      ← c.byte_at-opcode.ensures,
      c.in-232.is,
      c.unsigned_byte-in-232.ensures,
      c.second_byte-in-232.ensures,
    )

pub returns-in-233 : goal.returns-in-233
returns-in-233 c = rw (← c.byte_at-opcode.ensures, c.in-233.is)

pub returns-in_default : goal.returns-in_default
returns-in_default c =
    let a = c.args in
    let byte_at = c.byte_at-opcode in
    rw (
      ← byte_at.ensures,
      find-rest (take 15 control_table) (drop 15 control_table) byte_at.result c.in_default.in_default-own.rest,
    )
    (rest-nop (eqb byte_at.result 0xFF) a.mode a.code.now a.at)
