-- The rows before `j` are filled, and those from `j` on decide the whole table.
use Rattle.verifier.proofs.Rowing.{Filled, Stored}
use Rattle.verifier.proofs.libraries.fill_libraries.Given as goal

abbrev pub invariant-loop-j : goal.invariant-loop-j
invariant-loop-j l =
    let set = l.set in
    Filled set.records.now set.lists.now set.directory.now l.r l.table l.j
    × Stored set.records.now set.lists.now set.directory.now l.r l.initial.table l.table l.j
