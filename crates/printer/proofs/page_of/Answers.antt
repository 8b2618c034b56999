-- `printer::page_of` meets its contract: over arrays of zeros the report is the text of the run file, which 32,768 bytes hold.
use Rattle.report.proofs.OwnMemory.{report-prints}
use Rattle.report.proofs.Pages.{never-empty}
use Rattle.printer.proofs.page_of.Goals as goal

pub returns-clause-page_after : goal.returns-clause-page_after
returns-clause-page_after c = report-prints c.args.file.now c.args.page.now c.report.ensures

pub returns-clause-lower_bound : goal.returns-clause-lower_bound
returns-clause-lower_bound c =
    never-empty c.args.file.now c.args.page.now (report-prints c.args.file.now c.args.page.now c.report.ensures)
