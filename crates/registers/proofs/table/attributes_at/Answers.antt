-- `crate::table::attributes_at` meets its contract: the row of the module, and the sizes of those before it and of all.
use mathlib.Core.Path.{◌∙◌}
use mathlib.Core.List.{[]}
use native.Mathlib.Omega.{arith}
use Rattle.registers.proofs.Rows.{module-row, row_within, rows_end}
use Rattle.registers.proofs.table.attributes_at.Goals as goal

pub overflow_add-globals : goal.overflow_add-globals
overflow_add-globals c =
    let a = c.args in
    let pre = c.requires in
    omega (arith, c.data_start-globals.ensures.0 [], row_within a.table.now [] a.k pre.k_in_bounds, pre.by_index [])

pub overflow_add-constants : goal.overflow_add-constants
overflow_add-constants c =
    let a = c.args in
    let pre = c.requires in
    let data-start = c.data_start-globals in
    omega
    (arith, data-start.ensures.0 [], c.row_word.ensures.0, row_within a.table.now [] a.k pre.k_in_bounds, pre.by_index [])

pub overflow_cast-result : goal.overflow_cast-result
overflow_cast-result c =
    let a = c.args in
    let pre = c.requires in
    let data-start = c.data_start-globals in
    omega (arith, data-start.ensures.0 [], row_within a.table.now [] a.k pre.k_in_bounds, pre.by_index [])

pub overflow_cast-result-2 : goal.overflow_cast-result-2
overflow_cast-result-2 c =
    let a = c.args in
    let pre = c.requires in
    let row_word = c.row_word in
    let data-start = c.data_start-globals in
    omega
    (arith, data-start.ensures.0 [], row_word.ensures.0, row_within a.table.now [] a.k pre.k_in_bounds, pre.by_index [])

pub overflow_cast-result-3 : goal.overflow_cast-result-3
overflow_cast-result-3 c =
    let a = c.args in
    let pre = c.requires in
    omega (arith, c.data_start-frames.ensures.0 [], rows_end a.table.now [], pre.by_index [])

pub returns : goal.returns
returns c copy =
    let row-word2 = c.row_word-2 in
    let data-start2 = c.data_start-frames in
    let row_word = c.row_word in
    let data-start = c.data_start-globals in
    let a = c.args in
    let pre = c.requires in
    rw (
      data-start.ensures.0 copy,
      row_word.ensures.0,
      data-start2.ensures.0 copy ∙ rows_end a.table.now copy,
      row-word2.ensures.0,
      module-row a.table.now copy a.k pre.k_in_bounds,
    )
