-- `run_file::stack_words` meets its contract: the halfword behind the memory words.
use Rattle.run_file.specs.RunFile.{stack_words}
use Rattle.run_file.proofs.stack_words.Goals as goal

pub returns : goal.returns
unfolding stack_words
returns c = rw (c.halfword_at.ensures, c.budget_at.ensures)
