-- A linked set has at most sixteen modules.
use native.Mathlib.Omega.{arith}
use Rattle.relocation.proofs.Sound.{set_sound}
use Rattle.verifier.specs.Lent.{members}
use Rattle.verifier.proofs.linked.LinkedSet.results.Goals as goal

pub list_of-requires : goal.list_of-requires
list_of-requires c = let set = c.args.self in omega (arith, (set_sound (members set) set.linkable.numberless).few)
