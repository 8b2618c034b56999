-- `report_cases::print_page` is safe and ends: the bytes that `report` answers are bytes of the buffer.
use native.Mathlib.Omega.{arith}
use Rattle.std.proofs.Common.{length-take}
use Rattle.report.proofs.Reporting.{report-fits}
use Rattle.report_cases.proofs.print_page.Goals as goal

pub slice_bounds-page-end : goal.slice_bounds-page-end
slice_bounds-page-end g c = omega (arith, c.report-written.auto.out, report-fits _ _ _ _ _ c.report-written.ensures)

pub slice_bounds-write_all-end : goal.slice_bounds-write_all-end
slice_bounds-write_all-end g c =
    let h = report-fits _ _ _ _ _ c.report-written.ensures in
    omega (arith, c.report-written.auto.out, h, length-take c.report-written.result c.report-written.new.out)
