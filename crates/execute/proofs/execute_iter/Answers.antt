-- `execute::execute_iter` meets its contract: the words by their depths.
use Rattle.registers.specs.Modules.{modules_in}
use Rattle.registers.specs.Program.{program}
use Rattle.execute.proofs.Top.{iter-found}
use Rattle.execute.proofs.execute_iter.Goals as goal

pub returns : goal.returns
returns c =
    let iter-effect = c.iter_effect in
    let peek4 = c.peek-step in
    let peek3 = c.peek-last in
    let peek2 = c.peek-first in
    let peek = c.peek-a in
    let a = c.args in
    let pre = c.requires in
    λ code copy. rw (
      iter-found (program code a.attributes (modules_in a.table.now copy)) a.q a.m.now a.s.now a.next a.distance pre.le_height,
      iter-effect.ensures copy,
      peek.ensures,
      peek2.ensures,
      peek3.ensures,
      peek4.ensures,
    )
