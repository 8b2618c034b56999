-- The modules from `k` on decide.
use mathlib.Core.Path.{◌≡◌}
use lib.ListN.{drop}
use Rattle.verifier.specs.Check.{first_of}
use Rattle.verifier.specs.Lent.{members}
use Rattle.verifier.proofs.Ruling.{bad_in}
use Rattle.verifier.proofs.codes.cut_number.Given as goal

abbrev pub invariant-loop-k : goal.invariant-loop-k
invariant-loop-k l = first_of bad_in (members l.set) ≡ first_of bad_in (drop l.k (members l.set))
