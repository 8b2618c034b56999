-- `table::put_row` meets its contract: five stores in turn.
use mathlib.Core.Path.{ap}
use native.Mathlib.Omega.{arith}
use lib.ListN.{length, length-set}
use Rattle.record.proofs.Sound.{sound-code}
use Rattle.load.proofs.Tabling.{row-stored}
use Rattle.load.proofs.table.put_row.Goals as goal

pub overflow_cast-table-2 : goal.overflow_cast-table-2
overflow_cast-table-2 c =
    let code_of_lem = c.code_of-code in
    let a = c.args in
    let pre = c.requires in
    omega (arith, ap length code_of_lem.ensures, sound-code a.r.now pre.r_value)

pub bounds-table-place-2 : goal.bounds-table-place-2
bounds-table-place-2 c =
    let pre = c.requires in
    simp length-set (omega (arith, pre.place_in_bounds))

pub bounds-table-place-3 : goal.bounds-table-place-3
bounds-table-place-3 c =
    let pre = c.requires in
    simp length-set (omega (arith, pre.place_in_bounds))

pub bounds-table-place-4 : goal.bounds-table-place-4
bounds-table-place-4 c =
    let pre = c.requires in
    simp length-set (omega (arith, pre.place_in_bounds))

pub bounds-table-place-5 : goal.bounds-table-place-5
bounds-table-place-5 c =
    let pre = c.requires in
    simp length-set (omega (arith, pre.place_in_bounds))

pub returns : goal.returns
returns c =
    let wraps-word = c.wraps_word-wrapping in
    let code_of_lem = c.code_of-code in
    let header_of = c.header_of-h in
    let a = c.args in
    rw (wraps-word.ensures, code_of_lem.ensures, header_of.ensures)
    (row-stored a.table.now a.place _ _ _ _ _)
