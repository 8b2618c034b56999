-- `text::put_words` meets its contract: after i turns the words from i on are left, and no word took more than 11 bytes.
use Prim.Native.Nat.{◌+◌, ◌*◌, ◌≤◌}
use lib.ListN.{drop}
use Rattle.text.specs.Text.{words_text}
use Rattle.text.proofs.Writing.{Left}
use Rattle.text.proofs.put_words.Given as goal

abbrev pub invariant-loop-x : goal.invariant-loop-x
invariant-loop-x l = record {
  short : l.place ≤ l.at + 11 * l.x-index;
  left : Left l.initial.out l.at (words_text l.xs) l.out l.place (words_text (drop l.x-index l.xs));
}
