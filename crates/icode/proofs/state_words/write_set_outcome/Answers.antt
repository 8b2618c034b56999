-- `icode::state_words::write_set_outcome` meets its contract: one word more, behind the three.
use native.Mathlib.Omega.{arith}
use Rattle.run.specs.Run.{outcome_words}
use Rattle.icode.proofs.Benching.{laid_more}
use Rattle.icode.proofs.state_words.write_set_outcome.Goals as goal

pub returns : goal.returns
returns c =
    let write-outcome = c.write_outcome in
    let a = c.args in
    let pre = c.requires in
    rw write-outcome.ensures (laid_more (outcome_words a.e) a.outcome.now a.e.member (omega (arith, pre)))
