-- `switch_table::exit_distance` meets its contract: a halfword of the table.
use Rattle.switch_table.specs.Switch.{exit_distance}
use Rattle.switch_table.proofs.exit_distance.Goals as goal

pub returns : goal.returns
unfolding exit_distance
returns c = c.halfword_behind.ensures
