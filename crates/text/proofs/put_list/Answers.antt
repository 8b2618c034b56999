-- `text::put_list` meets its contract: its letter, words and newline stand one behind the other.
use mathlib.Core.Path.{refl}
use native.Mathlib.Omega.{arith}
use Rattle.text.specs.Text.{list_line}
use Rattle.text.proofs.Writing.{wrote_one, wrote_then, words-short}
use Rattle.text.proofs.put_list.Goals as goal

pub put_bytes-requires : goal.put_bytes-requires
put_bytes-requires c =
    let put-words = c.put_words-place in
    let a = c.args in
    omega (arith, put-words.ensures.ends, words-short a.xs.now)

pub returns : goal.returns
unfolding list_line
returns c =
    let put-bytes = c.put_bytes in
    let put-words = c.put_words-place in
    let set-byte = c.set_byte in
    wrote_then (wrote_one set-byte.ensures refl) (wrote_then put-words.ensures put-bytes.ensures)
