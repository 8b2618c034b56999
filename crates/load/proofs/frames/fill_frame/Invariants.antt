-- `frames::fill_frame` meets its contract: the frame has its size, and is as it will be up to the place reached. The measure is
-- what is left of it.
use Prim.Native.Nat.{◌-◌}
use mathlib.Core.Path.{◌≡◌}
use lib.ListN.{length, take}
use Rattle.load.specs.Load.{frame_words}
use Rattle.load.proofs.frames.fill_frame.Given as goal

abbrev pub invariant-loop-i : goal.invariant-loop-i
invariant-loop-i l =
    (length l.frame ≡ length l.initial.frame) × (take l.i l.frame ≡ take l.i (frame_words l.k l.start l.parameters l.r))

abbrev pub decreases-loop-i : goal.decreases-loop-i
decreases-loop-i l = length l.initial.frame - l.i
