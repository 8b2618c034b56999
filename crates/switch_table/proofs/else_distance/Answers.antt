-- `switch_table::else_distance` meets its contract: a halfword of the table.
use Rattle.switch_table.specs.Switch.{else_distance}
use Rattle.switch_table.proofs.else_distance.Goals as goal

pub returns : goal.returns
unfolding else_distance
returns c = c.halfword_behind.ensures
