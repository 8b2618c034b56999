-- `module_set::count` meets its contract: a whole row each.
use mathlib.Core.Path.{sym}
use Rattle.module_set.proofs.Shares.{member-count}
use Rattle.module_set.proofs.count.Goals as goal

pub returns : goal.returns
returns c records lists = sym (member-count records lists c.args.directory.now)
