-- `control::next_effect` meets its contract: live, then protected, then the sum.
use mathlib.Core.Path.{◌≡◌}
use Rattle.control.specs.Control.{next_sum, sum_effect, next_effect}
use Rattle.control.proofs.next_effect.Goals.{After-next_sum, After-sum_effect}
use Rattle.control.proofs.next_effect.Goals as goal

pub returns-then-not-is_live : goal.returns-then-not-is_live
unfolding next_effect
returns-then-not-is_live c copy =
    let if1 = c.if-not-is_live in
    let is_live = c.is_live in
    rw (← is_live.ensures, if1.true)

pub returns-then-is_protected : goal.returns-then-is_protected
unfolding next_effect
returns-then-is_protected c copy =
    let if2 = c.if-is_protected in
    let is-protected = c.is_protected in
    let if1 = c.if-not-is_live in
    let is_live = c.is_live in
    rw (← is_live.ensures, if1.false, ← is-protected.ensures copy, if2.true)

summed : (c : After-next_sum) →
    let a = c.args in
    c.next_sum.result ≡ next_sum a.m.now a.a a.step
summed c = c.next_sum.ensures

goes : (c : After-sum_effect) →
    let a = c.args in
    c.sum_effect.result ≡ sum_effect a.q a.next a.a a.last a.step a.label c.next_sum.result
goes c = c.sum_effect.ensures

pub returns : goal.returns
unfolding next_effect
returns c copy =
    let if2 = c.if-is_protected in
    let is-protected = c.is_protected in
    let if1 = c.if-not-is_live in
    let is_live = c.is_live in
    rw (
      ← is_live.ensures,
      if1.false,
      ← is-protected.ensures copy,
      if2.false,
      ← summed (goal.at.returns c).After-next_sum,
      goes (goal.at.returns c).After-sum_effect,
    )
