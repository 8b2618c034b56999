-- `marks::mark_entries` meets its contract: what is left to mark decides. The measure is the entries left.
use mathlib.Core.Path.{◌≡◌}
use Rattle.words.specs.Bytes.{word_at}
use Rattle.words.specs.Series.{series}
use Rattle.relocation.specs.Relocation.{relocations_of}
use Rattle.relocation.specs.Marks.{marked}
use Rattle.relocation.proofs.marks.mark_entries.Given as goal

abbrev pub invariant-loop-named : goal.invariant-loop-named
invariant-loop-named l =
    marked l.initial.marks (relocations_of l.r) ≡ marked l.marks (series (word_at l.r) 4 l.entries.at l.entries.left)

abbrev pub decreases-loop-named : goal.decreases-loop-named
decreases-loop-named l = l.entries.left
