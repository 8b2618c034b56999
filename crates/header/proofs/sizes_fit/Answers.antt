-- `header::sizes_fit` meets its contract: where the first six sizes fit the last one decides, else a test fails.
use native.Mathlib.Omega.{arith}
use borrow.Author.Tests.{le-leb}
use Rattle.std.proofs.lemmas.Grind.{common_steps}
use Rattle.header.specs.Header.{sizes_fit}
use Rattle.header.proofs.sizes_fit.Goals as goal

pub returns-then-h-le16-2 : goal.returns-then-h-le16-2
unfolding sizes_fit
returns-then-h-le16-2 c =
    let t = c.if-h-le16-2.true in
    rw (le-leb _ 16 t.0, le-leb _ 4096 t.1, le-leb _ 1024 t.2, le-leb _ 1024 t.3, le-leb _ 4096 t.4, le-leb _ 16 t.5)

pub returns-else-h-le16-2 : goal.returns-else-h-le16-2
unfolding sizes_fit
returns-else-h-le16-2 c = grind (arith, common_steps)
