-- `icode::icode_line` meets its contract: each case of the answer passes as its number.
use Rattle.numbers.specs.Number.{number_of}
use Rattle.icode.proofs.Values.{refused-code, line_code_lem}
use Rattle.icode.proofs.icode_line.Goals as goal

pub returns-in-Ok : goal.returns-in-Ok
returns-in-Ok c = rw (← c.line_span.ensures.answer, c.in-Ok.is, c.line_in.ensures) (line_code_lem c.in-Ok.lookup)

pub returns-in-Err : goal.returns-in-Err
returns-in-Err c =
    rw (← c.line_span.ensures.answer, c.in-Err.is, c.number.ensures) (refused-code (number_of c.in-Err.refusal))
