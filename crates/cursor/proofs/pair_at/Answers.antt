-- `cursor::pair_at` meets its contract: the word after the first one is the word 4 bytes behind it.
use Rattle.cursor.proofs.Pairs.{pair_read}
use Rattle.cursor.proofs.pair_at.Goals as goal

pub returns : goal.returns
returns c =
    let opened = c.opened-c.ensures in
    let advanced = c.advanced.ensures in
    pair_read c.args.record.now c.args.at c.word-first.result c.word-second.result
    (rw (c.word-first.ensures, opened.0, opened.1))
    (rw (c.word-second.ensures, advanced.0, advanced.1, opened.0, opened.1))
