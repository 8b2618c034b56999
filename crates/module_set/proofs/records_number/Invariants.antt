-- `module_set::records_number` meets its contract: the lowest number so far decides, with what is left of the records and of the
-- directory.
use mathlib.Core.Path.{◌≡◌}
use Rattle.numbers.specs.Number.{number}
use Rattle.module_set.proofs.Every.{Passed}
use Rattle.module_set.proofs.records_number.Given as goal

abbrev pub invariant-loop-row : goal.invariant-loop-row
invariant-loop-row l =
    record {
      words : l.row-iterator.size ≡ 4;
      passed : Passed l.records l.directory (number l.lowest) l.rest l.row-iterator.rest.now;
    }
