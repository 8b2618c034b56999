-- `lowest` has the number over the offsets before `at`.
use mathlib.Core.Path.{◌≡◌}
use native.Mathlib.Omega.{arith}
use lib.ListN.{length}
use Rattle.std.proofs.Common.{rules}
use Rattle.faults.proofs.Lowest.{number-start, number-marked, number-bare, number-end}
use Rattle.faults.proofs.code_number.Goals.{then-mark-ne0, else-mark-ne0}
use Rattle.faults.proofs.code_number.Goals as goal

pub loop-at-init : goal.loop-at-init
loop-at-init c = search (rules, number-start)

pub returns : goal.returns
returns c = let e : c.loop-at.at ≡ length c.args.code.now = omega arith in search (rules, number-end)

pub loop-at-preserved : goal.loop-at-preserved
loop-at-preserved c =
    elim c.if-mark-ne0.branch [
      | then-mark-ne0 w ↦ search (rules, number-marked)
      | else-mark-ne0 w ↦ search (rules, number-bare)
    ]
