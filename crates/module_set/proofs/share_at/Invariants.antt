-- `module_set::share_at` meets its contract: each turn adds the size of a row, a word. The measure is the rows left.
use Prim.Native.Nat.{◌-◌, ◌*◌, ◌≤◌}
use mathlib.Core.Path.{◌≡◌}
use Rattle.module_set.specs.Rows.{shares_before}
use Rattle.module_set.proofs.share_at.Given as goal

abbrev pub invariant-loop-i : goal.invariant-loop-i
invariant-loop-i l = (l.sum ≡ shares_before l.directory l.j l.i) × (l.sum ≤ l.i * 4294967295) × (l.i ≤ l.k)

abbrev pub decreases-loop-i : goal.decreases-loop-i
decreases-loop-i l = l.k - l.i
