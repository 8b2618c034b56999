-- `run_file::read_parameters` meets its contract. The loop's invariant: up to the place reached the parameters are the words of
-- the file.
use mathlib.Core.Path.{◌≡◌}
use lib.ListN.{length, take}
use Rattle.words.specs.Bytes.{words_from}
use Rattle.run_file.proofs.read_parameters.Given as goal

abbrev pub invariant-loop-i : goal.invariant-loop-i
invariant-loop-i l = take l.i l.parameters ≡ take l.i (words_from l.f l.from (length l.initial.parameters))
