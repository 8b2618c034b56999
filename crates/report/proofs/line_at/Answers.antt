-- `line_at` meets its contract: the line of the span, and 0 where there is none.
use Rattle.source.proofs.SpanLaws.{line-agrees}
use Rattle.report.proofs.line_at.Goals as goal

pub returns-in_default : goal.returns-in_default
returns-in_default c =
    let a = c.args in
    rw (← line-agrees a.r.now a.h a.offset, ← c.lookup_at.ensures, c.in_default.is)

pub returns : goal.returns
returns c =
    let a = c.args in
    rw (← line-agrees a.r.now a.h a.offset, ← c.lookup_at.ensures, c.in-Some.is)
