-- `build::data_form` meets its contract: each code finds its row, and one that is none of them finds none.
use mathlib.Core.List.{[]}
use Rattle.opcode.proofs.Rows.{find-rest}
use Rattle.opcode.specs.Table.{data_table}
use Rattle.operand.proofs.Extend.{extended-word}
use Rattle.opcode.proofs.build.data_form.Goals as goal

pub returns-in-128 : goal.returns-in-128
returns-in-128 c = rw (← c.byte_at-opcode.ensures, c.in-128.is, c.unsigned_byte.ensures)

pub returns-in-129 : goal.returns-in-129
returns-in-129 c = rw (← c.byte_at-opcode.ensures, c.in-129.is, c.unsigned_halfword.ensures)

pub returns-in-130 : goal.returns-in-130
returns-in-130 c = rw (← c.byte_at-opcode.ensures, c.in-130.is, c.signed_byte.ensures)

pub returns-in-131 : goal.returns-in-131
returns-in-131 c = rw (← c.byte_at-opcode.ensures, c.in-131.is, c.signed_halfword.ensures)

pub returns-in-132 : goal.returns-in-132
returns-in-132 c =
    rw (
      ← c.byte_at-opcode.ensures,
      c.in-132.is,
      ← c.word.ensures,
      extended-word c.word.result c.word.type_inv,
    )

pub returns-in-133 : goal.returns-in-133
returns-in-133 c = rw (← c.byte_at-opcode.ensures, c.in-133.is, c.unsigned_byte-in-133.ensures)

pub returns-in-134 : goal.returns-in-134
returns-in-134 c = rw (← c.byte_at-opcode.ensures, c.in-134.is, c.unsigned_byte-in-134.ensures)

pub returns-in-135 : goal.returns-in-135
returns-in-135 c = rw (← c.byte_at-opcode.ensures, c.in-135.is, c.unsigned_byte-in-135.ensures)

pub returns-in-136 : goal.returns-in-136
returns-in-136 c = rw (← c.byte_at-opcode.ensures, c.in-136.is, c.unsigned_halfword-in-136.ensures)

pub returns-in-137 : goal.returns-in-137
returns-in-137 c =
    rw (
      ← c.byte_at-opcode.ensures,
      c.in-137.is,
      c.unsigned_byte-in-137.ensures,
      c.second_byte.ensures,
    )

pub returns-in-141 : goal.returns-in-141
returns-in-141 c = rw (← c.byte_at-opcode.ensures, c.in-141.is, c.unsigned_byte-in-141.ensures)

pub returns-in-142 : goal.returns-in-142
returns-in-142 c = rw (← c.byte_at-opcode.ensures, c.in-142.is, c.unsigned_byte-in-142.ensures)

pub returns-in-143 : goal.returns-in-143
returns-in-143 c = rw (← c.byte_at-opcode.ensures, c.in-143.is, c.unsigned_byte-in-143.ensures)

pub returns-in-144 : goal.returns-in-144
returns-in-144 c = rw (← c.byte_at-opcode.ensures, c.in-144.is, c.unsigned_halfword-in-144.ensures)

pub returns-in-145 : goal.returns-in-145
returns-in-145 c =
    rw (
      ← c.byte_at-opcode.ensures,
      c.in-145.is,
      c.unsigned_byte-in-145.ensures,
      c.second_byte-in-145.ensures,
    )

pub returns-in-146 : goal.returns-in-146
returns-in-146 c = rw (← c.byte_at-opcode.ensures, c.in-146.is, c.unsigned_byte-in-146.ensures)

pub returns-in-147 : goal.returns-in-147
returns-in-147 c = rw (← c.byte_at-opcode.ensures, c.in-147.is, c.unsigned_halfword-in-147.ensures)

pub returns-in-148 : goal.returns-in-148
returns-in-148 c = rw (← c.byte_at-opcode.ensures, c.in-148.is, c.unsigned_byte-in-148.ensures)

pub returns-in-149 : goal.returns-in-149
returns-in-149 c = rw (← c.byte_at-opcode.ensures, c.in-149.is, c.unsigned_byte-in-149.ensures)

pub returns-in-150 : goal.returns-in-150
returns-in-150 c = rw (← c.byte_at-opcode.ensures, c.in-150.is, c.unsigned_byte-in-150.ensures)

pub returns-in-151 : goal.returns-in-151
returns-in-151 c = rw (← c.byte_at-opcode.ensures, c.in-151.is, c.unsigned_halfword-in-151.ensures)

pub returns-in-152 : goal.returns-in-152
returns-in-152 c =
    rw (
      ← c.byte_at-opcode.ensures,
      c.in-152.is,
      c.unsigned_byte-in-152.ensures,
      c.second_byte-in-152.ensures,
    )

pub returns-in-158 : goal.returns-in-158
returns-in-158 c = rw (← c.byte_at-opcode.ensures, c.in-158.is, c.unsigned_byte-in-158.ensures)

pub returns-in-159 : goal.returns-in-159
returns-in-159 c = rw (← c.byte_at-opcode.ensures, c.in-159.is)

pub returns-in_default : goal.returns-in_default
returns-in_default c = rw (
  ← c.byte_at-opcode.ensures,
  find-rest data_table [] c.byte_at-opcode.result
      c.in_default.in_default-own.rest,
)
