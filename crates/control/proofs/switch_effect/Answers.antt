-- `control::switch_effect` meets its contract: the exit label, and the place at the distance.
use mathlib.Core.Path.{◌≡◌}
use Rattle.operand.specs.Distance.{place_at}
use Rattle.control.specs.Control.{switch_effect}
use Rattle.control.proofs.switch_effect.Goals.{After-place_at}
use Rattle.control.proofs.switch_effect.Goals as goal

abbrev Placed : After-place_at → Type 0
Placed c = c.place_at.result ≡ place_at c.args.q.pc c.switch_distance-distance.result

placed : (c : After-place_at) → Placed c
placed c = c.place_at.ensures

branches : ((c : After-place_at) → Placed c) → goal.returns
unfolding switch_effect
branches told c =
    rw (
      c.exit_label.ensures,
      c.moved.ensures,
      told (goal.at.returns c).After-place_at,
      c.switch_distance-distance.ensures,
    )

pub returns : goal.returns
returns = branches placed
