-- `table::wraps_word` meets its contract: by whether results wrap.
use Rattle.load.proofs.table.wraps_word.Goals as goal

pub returns-then-wraps : goal.returns-then-wraps
returns-then-wraps c =
    let if1 = c.if-wraps in
    let wraps = c.wraps in
    rw (← wraps.ensures, if1.true)

pub returns-else-wraps : goal.returns-else-wraps
returns-else-wraps c =
    let if1 = c.if-wraps in
    let wraps = c.wraps in
    rw (← wraps.ensures, if1.false)
