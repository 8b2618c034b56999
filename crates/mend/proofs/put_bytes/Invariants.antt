-- `mend::put_bytes` meets its contract: the stores of what is left give those of all.
use Prim.Native.Nat.{◌+◌}
use mathlib.Core.Path.{◌≡◌}
use lib.ListN.{drop}
use lib.Seq.{sets}
use Rattle.mend.proofs.put_bytes.Given as goal

abbrev pub invariant-loop-byte : goal.invariant-loop-byte
invariant-loop-byte l =
    record {
      place : l.at ≡ l.to + l.byte-index;
      stores : sets l.initial.out l.to l.bytes ≡ sets l.out l.at (drop l.byte-index l.bytes);
    }
