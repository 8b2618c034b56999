-- `run_file::results_of` meets its contract: the part that the results count tells.
use Rattle.run_file.specs.RunFile.{results_of}
use Rattle.run_file.proofs.results_of.Goals as goal

pub returns : goal.returns
unfolding results_of
returns c = rw (c.part.ensures, c.results_count.ensures)
