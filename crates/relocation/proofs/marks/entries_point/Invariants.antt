-- `marks::entries_point` meets its contract: the entries from one on decide. The measure is the entries left.
use mathlib.Core.Path.{◌≡◌}
use Rattle.words.specs.Bytes.{word_at}
use Rattle.words.specs.Order.{every}
use Rattle.words.specs.Series.{series}
use Rattle.relocation.specs.Relocation.{relocations_of}
use Rattle.relocation.specs.Marks.{is_marked}
use Rattle.relocation.proofs.marks.entries_point.Given as goal

abbrev pub invariant-loop-place : goal.invariant-loop-place
invariant-loop-place l =
    every (is_marked l.marks) (relocations_of l.r)
    ≡ every (is_marked l.marks) (series (word_at l.r) 4 l.entries.at l.entries.left)

abbrev pub decreases-loop-place : goal.decreases-loop-place
decreases-loop-place l = l.entries.left
