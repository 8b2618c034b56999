-- `fast_loop::fast_steps` meets its contract: the inner loop's steps, and then one that changes frames, turn by turn.
use mathlib.Core.Path.{◌≡◌}
use Rattle.entries.specs.Entries.{entry_count}
use Rattle.fast_frames.specs.Frames.{framed}
use Rattle.fast_loop.proofs.Stepping.{Reaching, program_in}
use Rattle.fast_loop.proofs.fast_steps.Given as goal

abbrev pub invariant-loop-left : goal.invariant-loop-left
invariant-loop-left l =
    (l.count ≡ entry_count l.code) × Reaching (program_in l.table l.copy l.code l.attributes)
    (framed l.initial.pc l.initial.fp l.initial.mp l.gp l.initial.height l.initial.calls l.initial.memory l.initial.stack)
    l.budget l.left (framed l.pc l.fp l.mp l.gp l.height l.calls l.memory l.stack)

abbrev pub decreases-loop-left : goal.decreases-loop-left
decreases-loop-left l = l.left
