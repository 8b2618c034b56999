-- `frames::fill` meets its contract: each turn writes the data frame of one member behind those before it, and what is left
-- decides. The measure is the modules left.
use Prim.Native.Nat.{ℕ, ◌-◌, ◌≤◌}
use mathlib.Core.List.{List}
use Rattle.module_set.specs.Members.{members_of}
use Rattle.load.proofs.Framing.{Framed}
use Rattle.load.proofs.frames.fill.Given as goal

abbrev pub invariant-loop-k : goal.invariant-loop-k
invariant-loop-k l =
    (l.k-end ≤ 16)
    × ((lists : List ℕ) →
    Framed (members_of l.records lists l.directory) l.parameters l.initial.memory l.memory l.given l.start l.k)

abbrev pub decreases-loop-k : goal.decreases-loop-k
decreases-loop-k l = l.k-end - l.k
