-- `state::headers_kept` meets its contract: row by row, and the rest of the table decides.
use Prim.Native.Nat.{◌-◌}
use Rattle.state.proofs.Headers.{Comparing}
use Rattle.state.proofs.headers_kept.Given as goal

abbrev pub invariant-loop-k : goal.invariant-loop-k
invariant-loop-k l = Comparing l.table l.memory l.n l.start l.k

abbrev pub decreases-loop-k : goal.decreases-loop-k
decreases-loop-k l = l.n - l.k
