-- `machine::steps::code_in` meets its contract: the part of the copy that the module's row names.
use Prim.Native.Nat.{◌<◌, ◌/◌}
use native.Mathlib.Omega.{arith}
use lib.ListN.{length}
use Rattle.registers.specs.Modules.{modules_in}
use Rattle.registers.proofs.Rows.{module-row, modules-length}
use Rattle.registers.proofs.Bases.{base-below}
use Rattle.machine.proofs.steps.code_in.Goals.{After-number_at-k}
use Rattle.machine.proofs.steps.code_in.Goals as goal

below : (c : After-number_at-k) →
    let a = c.args in
    c.number_at-k.result < length a.table.now / 5
below c =
    let a = c.args in
    let pre = c.requires in
    let Ms = modules_in a.table.now a.copy.now in
    omega
    (arith, c.number_at-k.ensures a.copy.now, base-below Ms a.gp pre.gp_value, modules-length a.table.now a.copy.now)

pub row_word-requires : goal.row_word-requires
row_word-requires c =
    let pre = c.requires in
    record {
      k_bound = omega (arith, below (goal.at.row_word-requires c).After-number_at-k, pre.table_len_bound);
      i_bound = omega arith;
    }

pub row_word-requires-2 : goal.row_word-requires-2
row_word-requires-2 c =
    let pre = c.requires in
    record {
      k_bound = omega (arith, below (goal.at.row_word-requires-2 c).After-number_at-k, pre.table_len_bound);
      i_bound = omega arith;
    }

pub returns : goal.returns
returns c =
    let part = c.part in
    let row-word2 = c.row_word-2 in
    let row_word = c.row_word in
    let number-at = c.number_at-k in
    let a = c.args in
    rw (
      ← number-at.ensures a.copy.now,
      module-row a.table.now a.copy.now number-at.result (below (goal.at.returns c).After-number_at-k),
      ← row_word.ensures.0,
      ← row-word2.ensures.0,
    ) part.ensures
