-- `icode::icode_line_span` meets its contract: the number that refuses the record, or what writing the lookup answers.
use mathlib.Core.Path.{◌∙◌}
use native.Mathlib.Omega.{arith}
use lib.ListN.{length}
use borrow.Author.Tests.{le-ltb}
use Rattle.icode.specs.Interface.{span_reply}
use Rattle.icode.proofs.icode_line_span.Goals as goal

pub returns-in-Ok : goal.returns-in-Ok
returns-in-Ok c = rw (c.number.ensures) (c.write_lookup.ensures ∙ rw (← c.line_span.ensures.answer, c.in-Ok.is))

pub returns-in-Err : goal.returns-in-Err
unfolding span_reply
returns-in-Err c =
    let span = c.args.span.now in
    rw (c.number-in-Err.ensures, ← c.line_span.ensures.answer, c.in-Err.is, le-ltb (length span) 0 (omega arith))
