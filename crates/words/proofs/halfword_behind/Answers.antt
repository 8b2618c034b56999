-- `words::halfword_behind` meets its contract: a sum past every place is past the end, where the halfword is 0.
use native.Mathlib.Omega.{arith}
use Prim.Native.Nat.{◌+◌}
use Rattle.words.proofs.Bytes.{halfword-capped}
use Rattle.words.proofs.halfword_behind.Goals as goal

pub returns : goal.returns
returns c =
    let a = c.args in
    rw c.halfword_at.ensures (halfword-capped a.s.now (a.at + a.k) _ _ c.saturating_add.ensures (omega arith))
