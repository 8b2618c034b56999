-- `fast::leaf::load` meets its contract: a live word is pushed.
use borrow.Author.Rules.{rules}
use Rattle.fast.proofs.Became.{became-also}
use Rattle.fast.proofs.leaf.load.Goals as goal

pub returns : goal.returns
returns c =
    let push = c.push in
    let if1 = c.if-mp-a in
    let a = c.args in
    became-also push.result _ _ _ _ _ if1.false (push.ensures a.memory.now)

pub bounds-memory-a : goal.bounds-memory-a
bounds-memory-a c = search rules
