-- `icode::state_words::write_outcome` meets its contract: three stores leave those three words first.
use native.Mathlib.Omega.{arith}
use lib.ListN.{length-set}
use lib.Seq.{sets-eq}
use Rattle.run.specs.Run.{outcome_words}
use Rattle.icode.proofs.state_words.write_outcome.Goals as goal

pub bounds-outcome-1 : goal.bounds-outcome-1
bounds-outcome-1 c =
    let pre = c.requires in
    simp length-set (omega (arith, pre))

pub bounds-outcome-2 : goal.bounds-outcome-2
bounds-outcome-2 c =
    let pre = c.requires in
    simp length-set (omega (arith, pre))

pub returns : goal.returns
returns c =
    let end-number = c.end_number in
    let a = c.args in
    let pre = c.requires in
    rw end-number.ensures (sets-eq (outcome_words a.e) a.outcome.now 0 (omega (arith, pre)))
