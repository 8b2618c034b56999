-- `crate::table::data_start` meets its contract: the sizes of the rows before, added up.
use native.Mathlib.Omega.{arith}
use Rattle.registers.specs.Modules.{modules_in}
use Rattle.registers.proofs.Rows.{adding-start, adding-next, adding-end}
use Rattle.registers.proofs.table.data_start.Goals as goal

pub loop-i-init : goal.loop-i-init
loop-i-init c = adding-start c.args.table.now _ c.args.k

pub overflow_add-start : goal.overflow_add-start
overflow_add-start c =
    let a = c.args in
    let pre = c.requires in
    let inv = c.loop-i.invariant in
    omega (arith, inv.count, inv.small, pre.k_bound, c.loop-i-test.true)

pub overflow_add-start-in-loop-i : goal.overflow_add-start-in-loop-i
overflow_add-start-in-loop-i c =
    let pre = c.requires in
    let inv = c.loop-i.invariant in
    omega (arith, inv.count, inv.small, pre.k_bound, c.loop-i-test.true, c.row_word.ensures.1)

pub overflow_add-start-in-loop-i-2 : goal.overflow_add-start-in-loop-i-2
overflow_add-start-in-loop-i-2 c =
    let pre = c.requires in
    let inv = c.loop-i.invariant in
    omega (
      arith,
      inv.count,
      inv.small,
      pre.k_bound,
      c.loop-i-test.true,
      c.row_word.ensures.1,
      c.row_word-in-loop-i.ensures.1,
    )

pub loop-i-preserved : goal.loop-i-preserved
loop-i-preserved c =
    let row-word2 = c.row_word-in-loop-i in
    let row_word = c.row_word in
    let loop-test = c.loop-i-test in
    let loop = c.loop-i in
    let a = c.args in
    let pre = c.requires in
    rw (row_word.ensures.0, row-word2.ensures.0)
    (adding-next a.table.now _ a.k loop.start loop.i loop.invariant loop-test.true pre.k_in_bounds
    (rw row_word.ensures.0 at row_word.ensures.1) (rw row-word2.ensures.0 at row-word2.ensures.1))

pub returns : goal.returns
unfolding modules_in
returns c =
    let loop = c.loop-i in
    let a = c.args in
    let pre = c.requires in (
      adding-end a.table.now _ a.k loop.start loop.i loop.invariant c.loop-i-test.false,
      omega (arith, loop.invariant.count, loop.invariant.small, pre.k_bound),
    )
