-- `machine::steps::attributes_in` meets its contract: those of the module whose globals GP points at.
use native.Mathlib.Omega.{arith}
use Rattle.registers.specs.Modules.{modules_in}
use Rattle.registers.proofs.Rows.{modules-length, frames-same}
use Rattle.registers.proofs.Bases.{base-below}
use Rattle.machine.proofs.steps.attributes_in.Goals as goal

pub attributes_at-requires : goal.attributes_at-requires
attributes_at-requires c =
    let number-at = c.number_at in
    let a = c.args in
    let pre = c.requires in
    let Ms = modules_in a.table.now a.copy.now in
    let below = base-below Ms a.gp pre.gp_value in record {
      table_len_bound = pre.table_len_bound;
      k_in_bounds = omega (arith, number-at.ensures a.copy.now, below, modules-length a.table.now a.copy.now);
      by_index = λ copy. omega (arith, frames-same a.table.now copy a.copy.now, pre.copy_bound);
    }

pub returns : goal.returns
returns c =
    let attributes-at = c.attributes_at in
    let number-at = c.number_at in
    let a = c.args in
    rw (attributes-at.ensures a.copy.now, number-at.ensures a.copy.now)
