-- `record::line_span` meets its contract: the span of the line where no number refuses the record, else the number.
use Rattle.record.specs.Number.{line_span}
use Rattle.record.proofs.Sound.{handed-on, refused}
use Rattle.record.proofs.line_span.Goals as goal

pub returns-in_err-h-clause-answer : goal.returns-in_err-h-clause-answer
unfolding line_span
returns-in_err-h-clause-answer c =
    let e = c.in_err-h.field-0.0 in
    rw (handed-on c.from_residual.result e c.from_residual.ensures.1)
    (refused c.args.r.now _ e c.in_err-h.ensures.number)

pub returns-clause-answer : goal.returns-clause-answer
unfolding line_span
returns-clause-answer c = rw (c.lookup_at.ensures, ← c.in_ok-h.ensures.number, c.in_ok-h.ensures.header)
