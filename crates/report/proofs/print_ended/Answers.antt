-- `print_ended` meets its contract: the page is measured, then written.
use Rattle.report.specs.Report.{ended_text}
use Rattle.report.proofs.Printing.{print-short, print-whole}
use Rattle.report.proofs.print_ended.Goals as goal

pub returns-then-out-length : goal.returns-then-out-length
returns-then-out-length c =
    let if1 = c.if-out-length in
    let put_ended = c.put_ended-length in
    let a = c.args in
    print-short (ended_text a.r.now a.e a.memory.now a.stack.now) a.out.now put_ended.ensures
    if1.true

pub returns : goal.returns
returns c =
    let put-ended2 = c.put_ended in
    let if1 = c.if-out-length in
    let put_ended = c.put_ended-length in
    let a = c.args in
    print-whole (ended_text a.r.now a.e a.memory.now a.stack.now) a.out.now put_ended.ensures
    if1.false put-ended2.ensures
