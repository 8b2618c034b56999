-- `text::put_check` meets its contract: its pieces stand one behind the other.
use native.Mathlib.Omega.{arith}
use Rattle.text.proofs.Writing.{wrote_then, number-ends}
use Rattle.text.specs.Text.{check_line}
use Rattle.text.proofs.put_check.Goals as goal

pub put_bytes-requires : goal.put_bytes-requires
put_bytes-requires c = omega (arith, number-ends _ _ c.put_numbered-place.ensures)

pub returns : goal.returns
unfolding check_line
returns c =
    let put-bytes = c.put_bytes in
    let put-numbered = c.put_numbered-place in
    wrote_then put-numbered.ensures put-bytes.ensures
