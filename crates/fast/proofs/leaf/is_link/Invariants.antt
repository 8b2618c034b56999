-- `fast::leaf::is_link` meets its contract: the walk goes down until the address lies at or above a frame.
use Rattle.fast.proofs.Walking.{Walking}
use Rattle.fast.proofs.leaf.is_link.Given as goal

abbrev pub invariant-loop-frame : goal.invariant-loop-frame
invariant-loop-frame l = Walking l.memory l.start l.fp l.calls l.a l.frame

abbrev pub decreases-loop-frame : goal.decreases-loop-frame
decreases-loop-frame l = l.frame
