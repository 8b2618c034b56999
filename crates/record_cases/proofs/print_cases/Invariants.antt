-- `record_cases::print_cases` ends: each turn moves past a case's six bytes at least.
use Rattle.std.proofs.Common.{length, ◌-◌}
use Rattle.record_cases.proofs.print_cases.Given as goal

abbrev pub decreases-loop-at : goal.decreases-loop-at
decreases-loop-at g l = length l.fn.cases - l.at
