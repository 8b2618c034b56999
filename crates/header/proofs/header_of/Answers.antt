-- `header::header_of` meets its contract: each field is a word of its pair.
use Rattle.cursor.specs.Cursor.{pair_at}
use Rattle.header.specs.Header.{header_of}
use Rattle.header.proofs.header_of.Goals as goal

pub returns : goal.returns
unfolding header_of pair_at
returns c = rw (
  c.pair_at-a.ensures,
  c.pair_at-b.ensures,
  c.pair_at-c.ensures,
  c.pair_at-d.ensures,
)
