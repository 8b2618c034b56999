-- `fast_loop::data_steps` meets its contract: each turn is one step more that completed.
use mathlib.Core.Path.{◌≡◌}
use Prim.Native.Nat.{◌-◌}
use lib.ListN.{length}
use Rattle.fast.specs.Fast.{spot, state_at}
use Rattle.fast_loop.proofs.Stepping.{Reaching, program_in}
use Rattle.fast_loop.proofs.data_steps.Given as goal

abbrev pub invariant-loop-rest : goal.invariant-loop-rest
invariant-loop-rest l =
    (l.limit ≡ length l.code - 1) × Reaching (program_in l.table l.copy l.code l.attributes)
    (state_at l.q (spot l.initial.pc l.initial.height l.initial.memory l.initial.stack)) l.budget l.rest (state_at l.q
    (spot l.pc l.height l.memory l.stack))

abbrev pub decreases-loop-rest : goal.decreases-loop-rest
decreases-loop-rest l = l.rest
