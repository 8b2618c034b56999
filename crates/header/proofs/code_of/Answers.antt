-- `header::code_of` meets its contract: the part at the code's place, of the code's size.
use Rattle.header.specs.Header.{code_of}
use Rattle.header.proofs.code_of.Goals as goal

pub returns : goal.returns
unfolding code_of
returns c = rw (c.part.ensures, c.code_at.ensures, c.header_of-h.ensures)
