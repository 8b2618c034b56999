-- The members from `k` on decide.
use mathlib.Core.List.{[]}
use mathlib.Core.Path.{refl}
use native.Mathlib.Omega.{arith}
use Rattle.module_set.proofs.Shares.{member-count}
use Rattle.verifier.proofs.results.lists_sound.Goals as goal

pub loop-k-init : goal.loop-k-init
loop-k-init c = (omega (arith, c.count-k-end.ensures [] [], member-count [] [] c.args.directory.now), refl)
