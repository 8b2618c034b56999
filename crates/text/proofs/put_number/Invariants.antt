-- `text::put_number` meets its contract: after i turns the digits behind the first i are left to write.
use Prim.Native.Nat.{◌+◌, ◌-◌}
use Rattle.text.specs.Text.{digits as digits_of}
use Rattle.text.proofs.Writing.{Left}
use Rattle.text.proofs.put_number.Given as goal

abbrev pub invariant-loop-i : goal.invariant-loop-i
invariant-loop-i l = Left l.initial.out l.at (digits_of l.digits l.n) l.out (l.at + l.i) (digits_of (l.digits - l.i) l.n)
