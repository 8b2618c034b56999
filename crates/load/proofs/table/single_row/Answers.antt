-- `table::single_row` meets its contract: the row is the whole table.
use mathlib.Core.List.{[]}
use native.Mathlib.Omega.{arith}
use Rattle.module_set.specs.Members.{single}
use Rattle.relocation.proofs.Sound.{set_sound}
use Rattle.load.proofs.Tabling.{words-alone, table-alone}
use Rattle.load.proofs.table.single_row.Goals as goal

pub put_row-requires : goal.put_row-requires
put_row-requires c =
    let a = c.args in
    let pre = c.requires in
    record {
      r_value = (set_sound (single a.r.now []) pre.r_value).sound 0 (omega arith);
      at_bound = omega arith;
      place_in_bounds = omega (arith, pre.table_len);
    }

pub returns : goal.returns
returns c =
    let put-row = c.put_row in
    let a = c.args in
    let pre = c.requires in
    let stored = put-row.ensures in
    (words-alone a.r.now a.table.now _ stored, table-alone a.r.now a.table.now _ pre.r_value pre.table_len stored)
