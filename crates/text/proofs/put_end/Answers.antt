-- `text::put_end` meets its contract: its pieces stand one behind the other.
use native.Mathlib.Omega.{arith}
use Rattle.text.proofs.Writing.{wrote_then, number-ends}
use Rattle.text.specs.Text.{end_line}
use Rattle.text.proofs.put_end.Goals as goal

pub put_numbered-after_place-requires : goal.put_numbered-after_place-requires
put_numbered-after_place-requires c = omega (arith, number-ends _ _ c.put_numbered-after_end.ensures)

pub put_numbered-after_line-requires : goal.put_numbered-after_line-requires
put_numbered-after_line-requires c =
    let put-numbered2 = c.put_numbered-after_place in
    let put-numbered = c.put_numbered-after_end in
    omega (arith, number-ends _ _ put-numbered.ensures, number-ends _ _ put-numbered2.ensures)

pub put_numbered-after_steps-requires : goal.put_numbered-after_steps-requires
put_numbered-after_steps-requires c =
    let put-numbered3 = c.put_numbered-after_line in
    let put-numbered2 = c.put_numbered-after_place in
    let put-numbered = c.put_numbered-after_end in
    omega (
      arith,
      number-ends _ _ put-numbered.ensures,
      number-ends _ _ put-numbered2.ensures,
      number-ends _ _ put-numbered3.ensures,
    )

pub put_bytes-requires : goal.put_bytes-requires
put_bytes-requires c =
    let last = number-ends _ _ c.put_numbered-after_steps.ensures in
    omega (
      arith,
      number-ends _ _ c.put_numbered-after_end.ensures,
      number-ends _ _ c.put_numbered-after_place.ensures,
      number-ends _ _ c.put_numbered-after_line.ensures,
      last,
    )

pub returns : goal.returns
unfolding end_line
returns c =
    let put-bytes = c.put_bytes in
    let put-numbered4 = c.put_numbered-after_steps in
    let put-numbered3 = c.put_numbered-after_line in
    let put-numbered2 = c.put_numbered-after_place in
    let put-numbered = c.put_numbered-after_end in
    wrote_then put-numbered.ensures
    (wrote_then put-numbered2.ensures (wrote_then put-numbered3.ensures (wrote_then put-numbered4.ensures put-bytes.ensures)))
