-- `operate::arithmetic::unsigned_word` meets its contract: below 2^32 a number is a word; past it the rule decides.
use mathlib.Core.Bool.{true, false}
use native.Mathlib.Omega.{arith}
use Rattle.operate.proofs.Naturals.{in-word, past_word}
use Rattle.operate.proofs.arithmetic.unsigned_word.Goals as goal

pub returns-then-n-lt4294967296 : goal.returns-then-n-lt4294967296
returns-then-n-lt4294967296 c = in-word _ _ (omega arith)

pub returns-then-wraps : goal.returns-then-wraps
returns-then-wraps c = rw c.if-wraps.true (past_word true _ c.if-n-lt4294967296.false)

pub returns : goal.returns
returns c = rw c.if-wraps.false (past_word false _ c.if-n-lt4294967296.false)
