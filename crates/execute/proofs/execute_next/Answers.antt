-- `execute::execute_next` meets its contract: the words by their depths.
use Rattle.registers.specs.Modules.{modules_in}
use Rattle.registers.specs.Program.{program}
use Rattle.execute.proofs.Top.{next-found}
use Rattle.execute.proofs.execute_next.Goals as goal

pub returns : goal.returns
returns c =
    let next-effect = c.next_effect in
    let peek4 = c.peek-label in
    let peek3 = c.peek-step in
    let peek2 = c.peek-last in
    let peek = c.peek-a in
    let a = c.args in
    let pre = c.requires in
    λ code copy. rw (
      next-found (program code a.attributes (modules_in a.table.now copy)) a.q a.m.now a.s.now a.next pre.le_height,
      next-effect.ensures copy,
      peek.ensures,
      peek2.ensures,
      peek3.ensures,
      peek4.ensures,
    )
