-- `print_check` meets its contract: the line is measured, then written.
use Rattle.report.proofs.Printing.{print-short, print-whole}
use Rattle.text.specs.Text.{check_line}
use Rattle.report.proofs.print_check.Goals as goal

pub returns-then-out-length : goal.returns-then-out-length
returns-then-out-length c =
    let if1 = c.if-out-length in
    let put-check = c.put_check-length in
    let a = c.args in
    print-short (check_line a.n) a.out.now put-check.ensures if1.true

pub returns : goal.returns
returns c =
    let put-check2 = c.put_check in
    let if1 = c.if-out-length in
    let put-check = c.put_check-length in
    let a = c.args in
    print-whole (check_line a.n) a.out.now put-check.ensures if1.false put-check2.ensures
