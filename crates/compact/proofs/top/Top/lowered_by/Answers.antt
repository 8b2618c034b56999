-- A slot a turn, and those still to come off decide the list that is left.
use native.Mathlib.Omega.{arith}
use Rattle.std.proofs.Common.{rules}
use Rattle.compact.proofs.Lowering.{lowering-start, lowering-next, lowering-done}
use Rattle.compact.proofs.top.Top.lowered_by.Goals as goal

pub loop-init : goal.loop-init
loop-init c = search (rules, lowering-start)

pub lowered-top-requires : goal.lowered-top-requires
lowered-top-requires c = omega arith

pub loop-preserved : goal.loop-preserved
loop-preserved c = search (rules, lowering-next)

pub returns : goal.returns
returns c = search (rules, lowering-done)
