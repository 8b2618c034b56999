-- `text::put_words` meets its contract: after i turns the words from i on are left, and no word took more than 11 bytes.
use mathlib.Core.Path.{refl}
use native.Mathlib.Omega.{arith}
use lib.ListN.{get_or, drop_of_length-le}
use Rattle.text.proofs.Writing.{left-start, left-next, left_over, words-one, decimal-short}
use Rattle.text.proofs.put_words.Goals as goal

pub loop-x-init : goal.loop-x-init
loop-x-init c = record { short = omega arith; left = left-start refl refl }

pub loop-x-preserved : goal.loop-x-preserved
loop-x-preserved c =
    let put-number = c.put_number-place in
    let put-bytes = c.put_bytes-place in
    let i = c.loop-x.x-index in
    let xs = c.args.xs.now in
    record {
      short = omega (arith, put-bytes.ensures.ends, put-number.ensures.ends, decimal-short (get_or xs i 0));
      left =
          left-next (left-next c.loop-x.invariant.left (words-one xs i (omega arith)) put-bytes.ensures) refl
          put-number.ensures;
    }

pub returns : goal.returns
returns c =
    left_over c.loop-x.invariant.left (rw (drop_of_length-le c.args.xs.now {i = c.loop-x.x-index} (omega arith))) refl
