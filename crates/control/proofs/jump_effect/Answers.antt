-- `control::jump_effect` meets its contract.
use mathlib.Core.Path.{◌≡◌}
use Rattle.operand.specs.Distance.{place_at}
use Rattle.effect.specs.declared.effect.Push.TheVariants.{NoPush}
use Rattle.effect.specs.declared.effect.Write.TheVariants.{NoWrite}
use Rattle.effect.specs.declared.effect.Effect.TheVariants.{Go}
use Rattle.registers.specs.Changes.{moved}
use Rattle.control.specs.Control.{jump_effect}
use Rattle.control.proofs.jump_effect.Goals.{After-jump_to, After-place_at}
use Rattle.control.proofs.jump_effect.Goals as goal

placed : (c : After-place_at) → let a = c.args in c.place_at.result ≡ place_at a.q.pc a.distance
placed c = c.place_at.ensures

jumps : (c : After-jump_to) → let a = c.args in
    c.jump_to.result ≡ Go 0 NoPush NoWrite (moved a.q c.place_at.result)
jumps c = c.jump_to.ensures

pub returns : goal.returns
unfolding jump_effect
returns c = rw (jumps (goal.at.returns c).After-jump_to, placed (goal.at.returns c).After-place_at)
