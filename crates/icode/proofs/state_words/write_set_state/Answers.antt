-- `icode::state_words::write_set_state` meets its contract: one word more, behind the six.
use native.Mathlib.Omega.{arith}
use Rattle.registers.specs.State.{state_words}
use Rattle.icode.proofs.Benching.{laid_more}
use Rattle.icode.proofs.state_words.write_set_state.Goals as goal

pub returns : goal.returns
returns c =
    let write-state = c.write_state in
    let a = c.args in
    let pre = c.requires in
    rw write-state.ensures (laid_more (state_words a.q) a.state.now a.member (omega (arith, pre)))
