-- `step::code_size` meets its contract: the running code, or the part of the copy that is the other module's.
use Prim.Native.Nat.{◌<◌, ◌/◌}
use native.Mathlib.Omega.{arith}
use lib.ListN.{length}
use borrow.Author.Tests.{eq-eqb, ne_eqb}
use Rattle.registers.specs.Modules.{modules_in}
use Rattle.registers.proofs.Rows.{module-row, modules-length, module-past}
use Rattle.step.proofs.code_size.Goals as goal

pub returns-then-gp-attributes : goal.returns-then-gp-attributes
returns-then-gp-attributes c =
    let if1 = c.if-gp-attributes in
    let a = c.args in
    rw (eq-eqb a.gp a.attributes.globals if1.true)

pub returns-then-count-k : goal.returns-then-count-k
returns-then-count-k c =
    let if2 = c.if-count-k in
    let count = c.count in
    let number-at = c.number_at-k in
    let if1 = c.if-gp-attributes in
    let a = c.args in
    let Ms = modules_in a.table.now a.copy.now in
    rw (
      ne_eqb a.gp a.attributes.globals if1.false,
      ← number-at.ensures a.copy.now,
      module-past Ms number-at.result (omega (arith, count.ensures a.copy.now, if2.true)),
    )

pub row_word-requires : goal.row_word-requires
row_word-requires c =
    let if2 = c.if-count-k in
    let count = c.count in
    let a = c.args in
    let pre = c.requires in
    record {
      k_bound = omega (arith, count.ensures a.copy.now, if2.false, modules-length a.table.now a.copy.now, pre);
      i_bound = omega arith;
    }

pub row_word-requires-2 : goal.row_word-requires-2
row_word-requires-2 c =
    let if2 = c.if-count-k in
    let count = c.count in
    let a = c.args in
    let pre = c.requires in
    record {
      k_bound = omega (arith, count.ensures a.copy.now, if2.false, modules-length a.table.now a.copy.now, pre);
      i_bound = omega arith;
    }

pub returns : goal.returns
returns c =
    let part = c.part in
    let row-word2 = c.row_word-2 in
    let row_word = c.row_word in
    let if2 = c.if-count-k in
    let count = c.count in
    let number-at = c.number_at-k in
    let if1 = c.if-gp-attributes in
    let a = c.args in
    let below : number-at.result < length a.table.now / 5 =
    omega (arith, count.ensures a.copy.now, if2.false, modules-length a.table.now a.copy.now) in
    rw (
      ne_eqb a.gp a.attributes.globals if1.false,
      ← number-at.ensures a.copy.now,
      module-row a.table.now a.copy.now number-at.result below,
      ← row_word.ensures.0,
      ← row-word2.ensures.0,
      part.ensures,
    )
