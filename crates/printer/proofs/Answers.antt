-- What is printed are bytes of the buffer.
use Prim.Native.Nat.{ℕ, ◌≤◌}
use mathlib.Core.List.{List}
use mathlib.Core.Path.{◌≡◌, ap}
use lib.ListN.{length}
use Rattle.report.specs.Report.{Output, output, printed}
use Rattle.report.proofs.Printing.{answer-fits}

pub printed-within : (text out : List ℕ) {n : ℕ} {after : List ℕ} → output n after ≡ printed text out → n ≤ length out
printed-within text out e = rw (ap (λ (o : Output). o.answer) e) (answer-fits text out)
