-- `crate::table::is_fixed` meets its contract: row by row, and the rest of the table decides.
use mathlib.Core.Path.{◌∙◌, sym}
use native.Mathlib.Omega.{arith}
use Rattle.registers.specs.Modules.{modules_in}
use Rattle.registers.proofs.Rows.{seeking-start, seeking-header, seeking-constant, seeking-next, seeking-end}
use Rattle.registers.proofs.table.is_fixed.Goals as goal

pub loop-k-init : goal.loop-k-init
loop-k-init c = seeking-start c.args.table.now _ c.args.a

pub overflow_add-globals : goal.overflow_add-globals
overflow_add-globals c =
    let inv = c.loop-k.invariant in
    omega (arith, inv.count, inv.small, c.requires, c.loop-k-test.true)

pub returns-then-is_between : goal.returns-then-is_between
unfolding modules_in
returns-then-is_between c copy =
    let is-between = c.is_between in
    let loop-test = c.loop-k-test in
    let loop = c.loop-k in
    let a = c.args in
    sym
    (seeking-header a.table.now _ a.a loop.start loop.k loop.invariant loop-test.true
    (sym is-between.ensures ∙ c.if-is_between.true) copy)

pub overflow_add-constants : goal.overflow_add-constants
overflow_add-constants c =
    let inv = c.loop-k.invariant in
    let pre = c.requires in
    omega (arith, inv.count, inv.small, pre, c.loop-k-test.true, c.row_word.ensures.1)

pub overflow_add-end : goal.overflow_add-end
overflow_add-end c =
    let inv = c.loop-k.invariant in
    let pre = c.requires in
    omega (
      arith,
      inv.count,
      inv.small,
      pre,
      c.loop-k-test.true,
      c.row_word.ensures.1,
      c.row_word-in-loop-k.ensures.1,
    )

pub returns-then-is_between-2 : goal.returns-then-is_between-2
unfolding modules_in
returns-then-is_between-2 c copy =
    let is-between2 = c.is_between-in-loop-k in
    let row-word2 = c.row_word-in-loop-k in
    let row_word = c.row_word in
    let if1 = c.if-is_between in
    let is-between = c.is_between in
    let loop-test = c.loop-k-test in
    let loop = c.loop-k in
    let a = c.args in
    sym
    (seeking-constant a.table.now _ a.a loop.start loop.k loop.invariant loop-test.true
    (sym is-between.ensures ∙ if1.false)
    (rw (← row_word.ensures.0, ← row-word2.ensures.0) (sym is-between2.ensures ∙ c.if-is_between-2.true)) copy)

pub loop-k-preserved : goal.loop-k-preserved
loop-k-preserved c =
    let is-between2 = c.is_between-in-loop-k in
    let row-word2 = c.row_word-in-loop-k in
    let row_word = c.row_word in
    let if1 = c.if-is_between in
    let is-between = c.is_between in
    let loop-test = c.loop-k-test in
    let loop = c.loop-k in
    let a = c.args in
    rw (row_word.ensures.0, row-word2.ensures.0)
    (seeking-next a.table.now _ a.a loop.start loop.k loop.invariant loop-test.true
    (sym is-between.ensures ∙ if1.false)
    (rw (← row_word.ensures.0, ← row-word2.ensures.0) (sym is-between2.ensures ∙ c.if-is_between-2.false))
    (rw row_word.ensures.0 at row_word.ensures.1) (rw row-word2.ensures.0 at row-word2.ensures.1))

pub returns : goal.returns
unfolding modules_in
returns c copy =
    let loop = c.loop-k in
    let a = c.args in
    sym (seeking-end a.table.now _ a.a loop.start loop.k loop.invariant c.loop-k-test.false copy)
