-- `lowest` has the number over the offsets before `at`.
use mathlib.Core.Path.{◌≡◌}
use lib.ListN.{length}
use Rattle.numbers.specs.Number.{number}
use Rattle.entries.specs.Listed.{listed}
use Rattle.layout.specs.Workspace.{marks_in}
use Rattle.faults.proofs.Lowest.{number_to}
use Rattle.faults.proofs.code_number.Given as goal

abbrev pub invariant-loop-at : goal.invariant-loop-at
invariant-loop-at l = number l.lowest ≡ number_to l.code (listed l.libraries) (marks_in l.w (length l.code)) l.at
