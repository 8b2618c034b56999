-- `state::headers_kept` meets its contract: row by row, and the rest of the table decides.
use mathlib.Core.Path.{◌∙◌, sym}
use native.Mathlib.Omega.{arith}
use Rattle.registers.specs.Modules.{modules_in}
use Rattle.state.proofs.Headers.{comparing-start, comparing-break, comparing-next, comparing-end}
use Rattle.state.proofs.headers_kept.Goals as goal

pub loop-k-init : goal.loop-k-init
loop-k-init c =
    let a = c.args in
    comparing-start a.table.now a.memory.now _

pub header_kept-requires : goal.header_kept-requires
header_kept-requires c =
    let row_word = c.row_word-globals in
    let loop-test = c.loop-k-test in
    let loop = c.loop-k in
    let pre = c.requires in
    record {
      start_bound = omega (arith, loop.invariant.count, loop.invariant.small, pre, loop-test.true);
      globals_bound = omega (arith, row_word.ensures.1);
    }

pub returns-then-not-header_kept : goal.returns-then-not-header_kept
unfolding modules_in
returns-then-not-header_kept c =
    let if1 = c.if-not-header_kept in
    let header-kept = c.header_kept in
    let row_word = c.row_word-globals in
    let loop-test = c.loop-k-test in
    let loop = c.loop-k in
    let a = c.args in
    λ copy.
    sym (comparing-break a.table.now a.memory.now _ loop.start loop.k loop.invariant loop-test.true
    (rw (← row_word.ensures.0) (sym header-kept.ensures ∙ if1.true)) copy)

pub overflow_add-start : goal.overflow_add-start
overflow_add-start c =
    let loop-test = c.loop-k-test in
    let loop = c.loop-k in
    let pre = c.requires in
    omega (arith, loop.invariant.count, loop.invariant.small, pre, loop-test.true)

pub overflow_add-start-in-loop-k : goal.overflow_add-start-in-loop-k
overflow_add-start-in-loop-k c =
    let row_word = c.row_word-globals in
    let loop-test = c.loop-k-test in
    let loop = c.loop-k in
    let pre = c.requires in
    omega (arith, loop.invariant.count, loop.invariant.small, pre, loop-test.true, row_word.ensures.1)

pub overflow_add-start-in-loop-k-2 : goal.overflow_add-start-in-loop-k-2
overflow_add-start-in-loop-k-2 c =
    let row-word2 = c.row_word in
    let row_word = c.row_word-globals in
    let loop-test = c.loop-k-test in
    let loop = c.loop-k in
    let pre = c.requires in
    omega (arith, loop.invariant.count, loop.invariant.small, pre, loop-test.true, row_word.ensures.1, row-word2.ensures.1)

pub loop-k-preserved : goal.loop-k-preserved
loop-k-preserved c =
    let row-word2 = c.row_word in
    let if1 = c.if-not-header_kept in
    let header-kept = c.header_kept in
    let row_word = c.row_word-globals in
    let loop-test = c.loop-k-test in
    let loop = c.loop-k in
    let a = c.args in
    rw (row_word.ensures.0, row-word2.ensures.0)
    (comparing-next a.table.now a.memory.now _ loop.start loop.k loop.invariant loop-test.true
    (rw (← row_word.ensures.0) (sym header-kept.ensures ∙ if1.false))
    (rw row_word.ensures.0 at row_word.ensures.1) (rw row-word2.ensures.0 at row-word2.ensures.1))

pub returns : goal.returns
unfolding modules_in
returns c =
    let loop-test = c.loop-k-test in
    let loop = c.loop-k in
    let a = c.args in
    λ copy.
    sym (comparing-end a.table.now a.memory.now _ loop.start loop.k loop.invariant loop-test.false copy)
