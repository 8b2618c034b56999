-- `machine::steps::code_after` meets its contract: GP stayed, or the code is the part of the copy that the module's row names.
use Prim.Native.Nat.{◌<◌, ◌/◌}
use native.Mathlib.Omega.{arith}
use lib.ListN.{length}
use Rattle.registers.proofs.Rows.{module-row}
use Rattle.machine.proofs.Anew.{row_below}
use Rattle.machine.proofs.steps.code_after.Goals.{Else-gp-was}
use Rattle.machine.proofs.steps.code_after.Goals as goal

below : (c : Else-gp-was) →
    let a = c.args in
    a.member < length a.table.now / 5
below c =
    let a = c.args in
    row_below a.table.now a.copy.now a.gp a.member c.requires.gp_value (c.requires.member_value c.if-gp-was.false)

pub returns-then-gp-was : goal.returns-then-gp-was
returns-then-gp-was c =
    let if1 = c.if-gp-was in
    let pre = c.requires in
    rw if1.true pre.code_value

pub row_word-requires : goal.row_word-requires
row_word-requires c =
    let pre = c.requires in
    record {
      k_bound = omega (arith, below (goal.at.row_word-requires c).Else-gp-was, pre.table_len_bound);
      i_bound = omega arith;
    }

pub row_word-requires-2 : goal.row_word-requires-2
row_word-requires-2 c =
    let pre = c.requires in
    record {
      k_bound = omega (arith, below (goal.at.row_word-requires-2 c).Else-gp-was, pre.table_len_bound);
      i_bound = omega arith;
    }

pub returns : goal.returns
returns c =
    let part = c.part in
    let row-word2 = c.row_word-2 in
    let row_word = c.row_word in
    let if1 = c.if-gp-was in
    let a = c.args in
    let pre = c.requires in
    rw (
      ← pre.member_value if1.false,
      module-row a.table.now a.copy.now a.member (below (goal.at.returns c).Else-gp-was),
      ← row_word.ensures.0,
      ← row-word2.ensures.0,
    ) part.ensures
