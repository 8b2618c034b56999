-- `row_word` meets its contract: its tests are those of the definition, and the row of a library that there is lies in the table.
use Prim.Native.Nat.{◌-◌, ◌/◌}
use native.Mathlib.Omega.{arith}
use borrow.Author.Tests.{ne_eqb, eq-eqb, lt-ltb, le-ltb}
use lib.ListN.{length}
use Rattle.entries.specs.Libraries.{row_word}
use Rattle.entries.proofs.row_word.Goals as goal

pub returns-then-l-eq0 : goal.returns-then-l-eq0
unfolding row_word
returns-then-l-eq0 c =
    let if1 = c.if-l-eq0 in
    let a = c.args in
    rw (eq-eqb a.l 0 if1.true)

pub returns-then-libraries-k : goal.returns-then-libraries-k
unfolding row_word
returns-then-libraries-k c =
    let if1 = c.if-l-eq0 in
    let a = c.args in
    rw (ne_eqb a.l 0 if1.false, le-ltb (a.l - 1) (length a.libraries.now / 4) (omega arith))

pub returns : goal.returns
unfolding row_word
returns c =
    let if1 = c.if-l-eq0 in
    let a = c.args in
    rw (ne_eqb a.l 0 if1.false, lt-ltb (a.l - 1) (length a.libraries.now / 4) (omega arith))
