-- `run_file::memory_words` meets its contract: the halfword behind the budget.
use Rattle.run_file.specs.RunFile.{memory_words}
use Rattle.run_file.proofs.memory_words.Goals as goal

pub returns : goal.returns
unfolding memory_words
returns c = rw (c.halfword_at.ensures, c.budget_at.ensures)
