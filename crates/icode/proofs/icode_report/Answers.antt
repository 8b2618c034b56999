-- `icode_report` meets its contract: over arrays of zeros the report is the text of the run file, which 32,768 bytes hold.
use Rattle.report.proofs.OwnMemory.{report-prints}
use Rattle.report.proofs.Pages.{never-empty}
use Rattle.icode.proofs.icode_report.Goals as goal

pub returns : goal.returns
returns c =
    let report = c.report in
    let a = c.args in
    let prints = report-prints a.file.now a.out.now report.ensures in
    record {
      out_after = prints;
      lower_bound = never-empty a.file.now a.out.now prints;
    }
