-- `source::end_of` meets its contract: at the next pair where there is one, else at the end of the code.
use native.Mathlib.Numerals.{add-one}
use borrow.Author.Tests.{le-ltb, lt-ltb}
use Rattle.source.proofs.end_of.Goals as goal

pub returns-then-k-h : goal.returns-then-k-h
returns-then-k-h c = rw (lt-ltb _ _ c.if-k-h.true, c.pair_of.ensures, add-one)

pub returns : goal.returns
returns c = rw (le-ltb _ _ c.if-k-h.false)
