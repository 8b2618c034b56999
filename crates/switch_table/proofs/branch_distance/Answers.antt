-- `switch_table::branch_distance` meets its contract: a halfword of the table.
use Prim.Native.Nat.{◌*◌}
use native.Mathlib.Nat.{add_assoc}
use Rattle.switch_table.specs.Switch.{branch_distance}
use Rattle.switch_table.proofs.branch_distance.Goals as goal

pub returns : goal.returns
unfolding branch_distance
returns c = rw (add_assoc c.args.at 7 (2 * c.args.k)) c.halfword_behind.ensures
