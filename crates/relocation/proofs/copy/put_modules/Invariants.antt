-- `copy::put_modules` meets its contract: what is left to store decides, for every set with this directory. The measure is the
-- entries left.
use mathlib.Core.List.{List}
use mathlib.Core.Path.{◌≡◌}
use Prim.Native.Nat.{ℕ}
use Rattle.words.specs.Bytes.{word_at}
use Rattle.words.specs.Series.{series}
use Rattle.module_set.specs.Members.{members_of}
use Rattle.relocation.specs.Relocation.{relocations_of}
use Rattle.relocation.specs.Marks.{rewritten}
use Rattle.relocation.proofs.copy.put_modules.Given as goal

abbrev pub invariant-loop-place : goal.invariant-loop-place
invariant-loop-place l =
    (records lists : List ℕ) →
    rewritten (members_of records lists l.directory) l.r l.initial.part (relocations_of l.r)
    ≡ rewritten (members_of records lists l.directory) l.r l.part (series (word_at l.r) 4 l.entries.at l.entries.left)

abbrev pub decreases-loop-place : goal.decreases-loop-place
decreases-loop-place l = l.entries.left
