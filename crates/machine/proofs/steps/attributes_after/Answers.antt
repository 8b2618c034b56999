-- `machine::steps::attributes_after` meets its contract: GP stayed, or they are those of the module's row.
use Prim.Native.Nat.{◌<◌, ◌/◌}
use native.Mathlib.Omega.{arith}
use lib.ListN.{length}
use Rattle.machine.proofs.Anew.{row_below, row-constants, attributes-anew}
use Rattle.machine.proofs.steps.attributes_after.Goals.{Else-gp-was}
use Rattle.machine.proofs.steps.attributes_after.Goals as goal

below : (c : Else-gp-was) →
    let a = c.args in
    a.member < length a.table.now / 5
below c =
    let a = c.args in
    row_below a.table.now a.copy.now a.gp a.member c.requires.gp_value (c.requires.member_value c.if-gp-was.false)

pub returns-then-gp-was : goal.returns-then-gp-was
returns-then-gp-was c =
    let if1 = c.if-gp-was in
    let pre = c.requires in
    rw if1.true pre.attributes_value

pub row_word-requires : goal.row_word-requires
row_word-requires c =
    let pre = c.requires in
    record {
      k_bound = omega (arith, below (goal.at.row_word-requires c).Else-gp-was, pre.table_len_bound);
      i_bound = omega arith;
    }

pub row_word-requires-2 : goal.row_word-requires-2
row_word-requires-2 c =
    let pre = c.requires in
    record {
      k_bound = omega (arith, below (goal.at.row_word-requires-2 c).Else-gp-was, pre.table_len_bound);
      i_bound = omega arith;
    }

pub overflow_cast-result : goal.overflow_cast-result
overflow_cast-result c =
    let row_word = c.row_word in
    let if1 = c.if-gp-was in
    let a = c.args in
    let pre = c.requires in
    omega (
      arith,
      row_word.ensures.0,
      row-constants a.table.now a.copy.now a.gp a.member pre.gp_value (pre.member_value if1.false),
      pre.copy_bound,
    )

pub returns : goal.returns
returns c =
    let row-word2 = c.row_word-2 in
    let row_word = c.row_word in
    let if1 = c.if-gp-was in
    let a = c.args in
    let pre = c.requires in
    rw (row_word.ensures.0, row-word2.ensures.0)
    (attributes-anew a.table.now a.copy.now a.gp a.member pre.gp_value
    (pre.member_value if1.false) a.attributes a.was pre.attributes_value)
