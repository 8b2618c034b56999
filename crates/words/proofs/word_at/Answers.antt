-- `words::word_at` meets its contract: past the end both halfwords are 0.
use mathlib.Core.Path.{sym}
use Rattle.words.proofs.Bytes.{word-past}
use Rattle.words.specs.Bytes.{word_at}
use Rattle.words.proofs.word_at.Goals as goal

pub returns-then-s-i : goal.returns-then-s-i
returns-then-s-i c = sym (word-past c.args.s.now _ c.if-s-i.true)

pub returns : goal.returns
unfolding word_at
returns c = rw (c.join.ensures, c.halfword_at.ensures, c.halfword_at-2.ensures)
