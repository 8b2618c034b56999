-- `machine::steps::number_after` meets its contract: it is looked up where GP has changed.
use Rattle.machine.proofs.steps.number_after.Goals as goal

pub returns-then-gp-was : goal.returns-then-gp-was
returns-then-gp-was c =
    let if1 = c.if-gp-was in
    λ copy changed. absurd (changed if1.true)

pub returns : goal.returns
returns c =
    let number-at = c.number_at in
    λ copy changed. number-at.ensures copy
