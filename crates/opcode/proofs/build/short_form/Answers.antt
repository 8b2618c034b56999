-- `build::short_form` meets its contract: the first digit finds the row, and below 128 the one that is none of 0 to 6 is 7.
use Rattle.opcode.proofs.Rows.{digit-seven}
use Rattle.opcode.proofs.build.short_form.Goals as goal

pub returns-in-0 : goal.returns-in-0
returns-in-0 c = rw (← c.byte_at-opcode.ensures, c.in-0.is, c.byte_at-opcode.ensures)

pub returns-in-1 : goal.returns-in-1
returns-in-1 c = rw (← c.byte_at-opcode.ensures, c.in-1.is, c.byte_at-opcode.ensures)

pub returns-in-2 : goal.returns-in-2
returns-in-2 c = rw (← c.byte_at-opcode.ensures, c.in-2.is, c.byte_at-opcode.ensures)

pub returns-in-3 : goal.returns-in-3
returns-in-3 c = rw (← c.byte_at-opcode.ensures, c.in-3.is, c.byte_at-opcode.ensures)

pub returns-in-4 : goal.returns-in-4
returns-in-4 c = rw (← c.byte_at-opcode.ensures, c.in-4.is, c.byte_at-opcode.ensures)

pub returns-in-5 : goal.returns-in-5
returns-in-5 c = rw (← c.byte_at-opcode.ensures, c.in-5.is, c.byte_at-opcode.ensures)

pub returns-in-6 : goal.returns-in-6
returns-in-6 c = rw (← c.byte_at-opcode.ensures, c.in-6.is, c.byte_at-opcode.ensures)

pub returns-in_default : goal.returns-in_default
returns-in_default c =
    let byte_at = c.byte_at-opcode in
    rw (
      ← byte_at.ensures,
      digit-seven byte_at.result (rw byte_at.ensures c.requires) c.in_default.in_default-own.rest,
      byte_at.ensures,
    )
