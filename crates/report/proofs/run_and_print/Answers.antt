-- `run_and_print` meets its contract: what check, load and run leave is what is printed.
use Rattle.report.proofs.Reporting.{ran}
use Rattle.report.proofs.run_and_print.Goals as goal

pub returns : goal.returns
returns c =
    let print-answer = c.print_answer in
    let check-load-run = c.check_load_run-answer in
    let budget-of = c.budget_of-budget in
    let results-of = c.results_of-results in
    let record_of = c.record_of-r in
    let a = c.args in
    ran a.f.now a.workspace.now a.parameters.now a.memory.now a.stack.now a.out.now
    record_of.ensures results-of.ensures budget-of.ensures check-load-run.ensures.0 print-answer.ensures
