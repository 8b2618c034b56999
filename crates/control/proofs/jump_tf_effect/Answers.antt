-- `control::jump_tf_effect` meets its contract: the boolean stays where the jump is taken.
use mathlib.Core.Path.{◌≡◌}
use native.Mathlib.Omega.{arith}
use borrow.Author.Tests.{lt-ltb, le-ltb, eq-eqb, ne_eqb}
use Rattle.effect.specs.declared.effect.Push.TheVariants.{NoPush}
use Rattle.effect.specs.declared.effect.Write.TheVariants.{NoWrite}
use Rattle.effect.specs.declared.effect.Effect.TheVariants.{Go}
use Rattle.registers.specs.Changes.{moved}
use Rattle.control.specs.Control.{jump_tf_effect}
use Rattle.control.proofs.jump_tf_effect.Goals.{After-jump_to}
use Rattle.control.proofs.jump_tf_effect.Goals as goal

pub returns-then-b-gt1 : goal.returns-then-b-gt1
unfolding jump_tf_effect
returns-then-b-gt1 c = rw (le-ltb c.args.b 2 (omega arith))

jumps : (c : After-jump_to) →
    let a = c.args in
    c.jump_to.result ≡ Go 0 NoPush NoWrite (moved a.q c.place_at.result)
jumps c = c.jump_to.ensures

pub returns-then-b-truth : goal.returns-then-b-truth
unfolding jump_tf_effect
returns-then-b-truth c =
    let place_at = c.place_at in
    let if2 = c.if-b-truth in
    let a = c.args in
    rw (
      lt-ltb a.b 2 (omega arith),
      eq-eqb a.b a.truth if2.true,
      jumps (goal.at.returns-then-b-truth c).After-jump_to,
      place_at.ensures,
    )

pub returns : goal.returns
unfolding jump_tf_effect
returns c =
    let jump-to2 = c.jump_to-2 in
    let if2 = c.if-b-truth in
    let a = c.args in
    rw (lt-ltb a.b 2 (omega arith), ne_eqb a.b a.truth if2.false, jump-to2.ensures)
