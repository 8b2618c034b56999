-- `icode::state_words::write_state` meets its contract: six stores leave those six words first.
use native.Mathlib.Omega.{arith}
use lib.ListN.{length-set}
use lib.Seq.{sets-eq}
use Rattle.registers.specs.State.{state_words}
use Rattle.icode.proofs.state_words.write_state.Goals as goal

pub bounds-state-1 : goal.bounds-state-1
bounds-state-1 c =
    let pre = c.requires in
    simp length-set (omega (arith, pre))

pub bounds-state-2 : goal.bounds-state-2
bounds-state-2 c =
    let pre = c.requires in
    simp length-set (omega (arith, pre))

pub bounds-state-3 : goal.bounds-state-3
bounds-state-3 c =
    let pre = c.requires in
    simp length-set (omega (arith, pre))

pub bounds-state-4 : goal.bounds-state-4
bounds-state-4 c =
    let pre = c.requires in
    simp length-set (omega (arith, pre))

pub bounds-state-5 : goal.bounds-state-5
bounds-state-5 c =
    let pre = c.requires in
    simp length-set (omega (arith, pre))

pub returns : goal.returns
returns c =
    let a = c.args in
    let pre = c.requires in
    sets-eq (state_words a.q) a.state.now 0 (omega (arith, pre))
