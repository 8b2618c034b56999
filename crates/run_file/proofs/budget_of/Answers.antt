-- `run_file::budget_of` meets its contract: the word behind both lists.
use Rattle.run_file.specs.RunFile.{budget_of}
use Rattle.run_file.proofs.budget_of.Goals as goal

pub returns : goal.returns
unfolding budget_of
returns c = rw (c.word_at.ensures, c.budget_at.ensures)
