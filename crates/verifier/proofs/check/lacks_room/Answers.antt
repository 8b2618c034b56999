-- A directory that short has at most sixteen rows.
use mathlib.Core.List.{[]}
use native.Mathlib.Omega.{arith}
use Rattle.module_set.proofs.Shares.{member-count}
use Rattle.verifier.proofs.check.lacks_room.Goals as goal

pub record_of-requires : goal.record_of-requires
record_of-requires c = omega (arith, c.count.ensures [] [], member-count [] [] c.args.directory.now)
