-- `record::sized` meets its contract: each return is the first test of the table that is given, and the last one none.
use borrow.Author.Tests.{eq-eqb, ne_eqb, le-ltb, lt-ltb}
use Rattle.record.specs.Number.{size_number}
use Rattle.record.proofs.sized.Goals as goal

pub returns-then-r-lt28-clause-number : goal.returns-then-r-lt28-clause-number
unfolding size_number
returns-then-r-lt28-clause-number c = rw (lt-ltb _ 28 c.if-r-lt28.true)

pub returns-then-not-sizes_fit-clause-number : goal.returns-then-not-sizes_fit-clause-number
unfolding size_number
returns-then-not-sizes_fit-clause-number c = rw (
  le-ltb _ 28 c.if-r-lt28.false,
  ← c.header_of-h.ensures,
  ← c.sizes_fit.ensures,
  c.if-not-sizes_fit.true,
)

pub returns-then-r-record_length-clause-number : goal.returns-then-r-record_length-clause-number
unfolding size_number
returns-then-r-record_length-clause-number c =
    rw (
      le-ltb _ 28 c.if-r-lt28.false,
      ← c.header_of-h.ensures,
      ← c.sizes_fit.ensures,
      c.if-not-sizes_fit.false,
      ← c.record_length.ensures,
      ne_eqb _ _ c.if-r-record_length.true,
    )

pub returns-clause-number : goal.returns-clause-number
unfolding size_number
returns-clause-number c =
    rw (
      le-ltb _ 28 c.if-r-lt28.false,
      ← c.header_of-h.ensures,
      ← c.sizes_fit.ensures,
      c.if-not-sizes_fit.false,
      ← c.record_length.ensures,
      eq-eqb _ _ c.if-r-record_length.false,
    )
