-- `build::instruction_at` meets its contract: the four tables, in the order of the codes.
use native.Mathlib.Omega.{arith}
use borrow.Author.Tests.{ne_eqb, lt-ltb, le-ltb}
use Rattle.words.specs.Bytes.{byte_at}
use Rattle.opcode.specs.Decode.{instruction_at}
use Rattle.opcode.specs.Table.{row_of}
use Rattle.opcode.proofs.build.instruction_at.Goals as goal

pub returns-then-opcode-lt128 : goal.returns-then-opcode-lt128
unfolding instruction_at row_of
returns-then-opcode-lt128 c =
    let a = c.args in
    rw (
      c.short_form.ensures,
      ne_eqb (byte_at a.code.now a.at) 0x70 c.requires,
      lt-ltb (byte_at a.code.now a.at) 0x80 (omega arith),
    )

pub returns-then-opcode-lt160 : goal.returns-then-opcode-lt160
unfolding instruction_at row_of
returns-then-opcode-lt160 c =
    let a = c.args in
    rw (
      c.data_form.ensures,
      ne_eqb (byte_at a.code.now a.at) 0x70 c.requires,
      le-ltb (byte_at a.code.now a.at) 0x80 (omega arith),
      lt-ltb (byte_at a.code.now a.at) 0xA0 (omega arith),
    )

pub returns-then-opcode-lt218 : goal.returns-then-opcode-lt218
unfolding instruction_at row_of
returns-then-opcode-lt218 c =
    let a = c.args in
    rw (
      c.operation_form.ensures,
      ne_eqb (byte_at a.code.now a.at) 0x70 c.requires,
      le-ltb (byte_at a.code.now a.at) 0x80 (omega arith),
      le-ltb (byte_at a.code.now a.at) 0xA0 (omega arith),
      lt-ltb (byte_at a.code.now a.at) 0xDA (omega arith),
    )

pub returns : goal.returns
unfolding instruction_at row_of
returns c =
    let a = c.args in
    rw (
      c.control_form.ensures,
      ne_eqb (byte_at a.code.now a.at) 0x70 c.requires,
      le-ltb (byte_at a.code.now a.at) 0x80 (omega arith),
      le-ltb (byte_at a.code.now a.at) 0xA0 (omega arith),
      le-ltb (byte_at a.code.now a.at) 0xDA (omega arith),
    )
