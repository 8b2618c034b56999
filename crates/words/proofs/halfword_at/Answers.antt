-- `words::halfword_at` meets its contract: past the end both bytes are 0.
use mathlib.Core.Path.{sym}
use Rattle.words.proofs.Bytes.{halfword-past}
use Rattle.words.specs.Bytes.{halfword_at}
use Rattle.words.proofs.halfword_at.Goals as goal

pub returns-then-s-i : goal.returns-then-s-i
returns-then-s-i c = sym (halfword-past c.args.s.now _ c.if-s-i.true)

pub returns : goal.returns
unfolding halfword_at
returns c = rw (c.pair.ensures, c.byte_at.ensures, c.byte_at-2.ensures)
