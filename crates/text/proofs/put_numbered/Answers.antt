-- `text::put_numbered` meets its contract: the number stands behind the text.
use Rattle.text.specs.Text.{numbered}
use Rattle.text.proofs.Writing.{wrote_then}
use Rattle.text.proofs.put_numbered.Goals as goal

pub returns : goal.returns
unfolding numbered
returns c =
    let put-number = c.put_number in
    let put-bytes = c.put_bytes-number in
    wrote_then put-bytes.ensures put-number.ensures
