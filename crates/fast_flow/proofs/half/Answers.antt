-- `fast_flow::half` meets its contract: a halfword is two bytes.
use Rattle.words.specs.Bytes.{halfword_at}
use Rattle.fast_flow.proofs.half.Goals as goal

pub returns : goal.returns
unfolding halfword_at
returns c =
    let pair = c.pair in
    pair.ensures
