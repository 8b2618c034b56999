-- `state::is_base` meets its contract: the number that is found is below the number of modules.
use Rattle.state.proofs.is_base.Goals as goal

pub returns : goal.returns
returns c =
    let count = c.count in
    let number-at = c.number_at in
    λ copy. rw (← number-at.ensures copy, ← count.ensures copy)
