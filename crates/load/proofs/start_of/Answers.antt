-- `load::start_of` meets its contract: procedure 0's entry, and frames behind the data frames.
use Rattle.load.specs.Load.{start_of}
use Rattle.load.proofs.start_of.Goals as goal

pub returns : goal.returns
unfolding start_of
returns c =
    let entry_at = c.entry_at in
    λ P code globals frames. rw (code, globals, frames, entry_at.ensures)
