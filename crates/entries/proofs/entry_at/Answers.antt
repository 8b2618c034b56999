-- `entries::entry_at` meets its contract: the halfword at twice the number.
use Rattle.entries.specs.Entries.{entry_at}
use Rattle.entries.proofs.entry_at.Goals as goal

pub returns : goal.returns
unfolding entry_at
returns c = c.halfword_at.ensures
