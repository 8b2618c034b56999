-- `crate::table::count` meets its contract: a module a row.
use mathlib.Core.Path.{sym}
use Rattle.registers.proofs.Rows.{modules-length}
use Rattle.registers.proofs.table.count.Goals as goal

pub returns : goal.returns
returns c copy = sym (modules-length c.args.table.now copy)
