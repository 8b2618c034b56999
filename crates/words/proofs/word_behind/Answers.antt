-- `words::word_behind` meets its contract: a sum past every place is past the end, where the word is 0.
use native.Mathlib.Omega.{arith}
use Prim.Native.Nat.{◌+◌}
use Rattle.words.proofs.Bytes.{word-capped}
use Rattle.words.proofs.word_behind.Goals as goal

pub returns : goal.returns
returns c =
    let a = c.args in
    rw c.word_at.ensures (word-capped a.s.now (a.at + a.k) _ _ c.saturating_add.ensures (omega arith))
