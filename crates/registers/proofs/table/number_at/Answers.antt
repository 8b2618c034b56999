-- `crate::table::number_at` meets its contract: row by row, and the rest of the table decides.
use native.Mathlib.Omega.{arith}
use Rattle.registers.specs.Modules.{modules_in, number_at}
use Rattle.registers.proofs.Rows.{numbering_start, numbering-found, numbering-next, numbering-end}
use Rattle.registers.proofs.table.number_at.Goals as goal

pub loop-k-init : goal.loop-k-init
loop-k-init c = numbering_start c.args.table.now _ c.args.a

pub returns-then-a-start : goal.returns-then-a-start
unfolding modules_in number_at
returns-then-a-start c copy =
    let loop-test = c.loop-k-test in
    let loop = c.loop-k in
    let a = c.args in
    numbering-found a.table.now _ a.a loop.start loop.k loop.invariant loop-test.true c.if-a-start.true copy

pub overflow_add-start-in-loop-k-2 : goal.overflow_add-start-in-loop-k-2
overflow_add-start-in-loop-k-2 c =
    let inv = c.loop-k.invariant in
    let pre = c.requires in
    omega (arith, inv.count, inv.small, pre, c.loop-k-test.true, c.row_word.ensures.1)

pub overflow_add-start-in-loop-k-3 : goal.overflow_add-start-in-loop-k-3
overflow_add-start-in-loop-k-3 c =
    let inv = c.loop-k.invariant in
    let pre = c.requires in
    omega (
      arith,
      inv.count,
      inv.small,
      pre,
      c.loop-k-test.true,
      c.row_word.ensures.1,
      c.row_word-in-loop-k.ensures.1,
    )

pub loop-k-preserved : goal.loop-k-preserved
loop-k-preserved c =
    let row-word2 = c.row_word-in-loop-k in
    let row_word = c.row_word in
    let if1 = c.if-a-start in
    let loop-test = c.loop-k-test in
    let loop = c.loop-k in
    let a = c.args in
    rw (row_word.ensures.0, row-word2.ensures.0)
    (numbering-next a.table.now _ a.a loop.start loop.k loop.invariant loop-test.true if1.false
    (rw row_word.ensures.0 at row_word.ensures.1) (rw row-word2.ensures.0 at row-word2.ensures.1))

pub returns : goal.returns
unfolding modules_in number_at
returns c copy =
    let loop = c.loop-k in
    let a = c.args in
    numbering-end a.table.now _ a.a loop.start loop.k loop.invariant c.loop-k-test.false copy
