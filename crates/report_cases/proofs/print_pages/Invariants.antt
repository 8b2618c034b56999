-- `report_cases::print_pages` ends: each turn moves past the two bytes of a length at least.
use Rattle.std.proofs.Common.{length, ◌-◌}
use Rattle.report_cases.proofs.print_pages.Given as goal

abbrev pub decreases-loop-at : goal.decreases-loop-at
decreases-loop-at g l = length l.fn.cases - l.at
