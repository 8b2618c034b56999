-- `text::put_bytes` meets its contract: after i turns the bytes from i on are left to write.
use Prim.Native.Nat.{◌+◌}
use lib.ListN.{drop}
use Rattle.text.proofs.Writing.{Left}
use Rattle.text.proofs.put_bytes.Given as goal

abbrev pub invariant-loop-i : goal.invariant-loop-i
invariant-loop-i l = Left l.initial.out l.at l.s l.out (l.at + l.i) (drop l.i l.s)
