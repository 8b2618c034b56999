-- `module_set::row_word` meets its contract: the word at its place where the row is there.
use mathlib.Core.Path.{sym}
use Rattle.module_set.proofs.Shares.{row-some, row-none}
use Rattle.module_set.proofs.row_word.Goals as goal

pub returns-then-k-directory : goal.returns-then-k-directory
returns-then-k-directory c = sym (row-some c.args.directory.now c.args.k c.args.j c.if-k-directory.true)

pub returns-else-k-directory : goal.returns-else-k-directory
returns-else-k-directory c = sym (row-none c.args.directory.now c.args.k c.args.j c.if-k-directory.false)
