-- `machine::steps::ended_at` meets its contract: the module whose globals GP points at.
use native.Mathlib.Omega.{arith}
use mathlib.Core.List.{[]}
use Rattle.registers.specs.Modules.{modules_in}
use Rattle.registers.proofs.Rows.{modules-length}
use Rattle.registers.proofs.Bases.{number-most}
use Rattle.machine.proofs.steps.ended_at.Goals as goal

pub overflow_cast-member : goal.overflow_cast-member
overflow_cast-member c =
    let number-at = c.number_at-member in
    let a = c.args in
    let pre = c.requires in
    let most = number-most (modules_in a.table.now []) a.machine.registers.gp in
    record { fits = omega (arith, number-at.ensures [], most, modules-length a.table.now [], pre) }

pub returns : goal.returns
returns c =
    let number-at = c.number_at-member in
    λ copy. rw (number-at.ensures copy)
