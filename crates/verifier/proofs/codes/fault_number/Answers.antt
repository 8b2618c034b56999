-- `lowest` has the lowest number of the modules before `k`.
use Rattle.std.proofs.Common.{rules}
use Rattle.words.proofs.Refusal.{lower-left}
use Rattle.verifier.proofs.Firsts.{lowest-over, lowest-next}
use Rattle.verifier.proofs.codes.fault_number.Goals as goal

pub loop-k-init : goal.loop-k-init
loop-k-init c = search (rules, lower-left)

pub loop-k-preserved : goal.loop-k-preserved
loop-k-preserved c = search (rules, lowest-next)

pub returns : goal.returns
returns c = search (rules, lowest-over)
