-- `operate::arithmetic::unsigned_difference` meets its contract: below 0 the rule decides; else it is a word.
use mathlib.Core.Bool.{true, false}
use Rattle.operate.proofs.Naturals.{difference-is, below-zero}
use Rattle.operate.proofs.arithmetic.unsigned_difference.Goals as goal

pub returns-then-wraps : goal.returns-then-wraps
returns-then-wraps c = rw c.if-wraps.true (below-zero true _ _ c.ranges.y c.if-x-y.true)

pub returns-then-x-y : goal.returns-then-x-y
returns-then-x-y c = rw c.if-wraps.false (below-zero false _ _ c.ranges.y c.if-x-y.true)

pub returns : goal.returns
returns c = difference-is _ _ _ c.ranges.x c.if-x-y.false
