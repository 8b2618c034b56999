-- Each turn hands the list to one branch, and what is left decides.
use Rattle.verifier.proofs.Steps.{Branched}
use Rattle.verifier.proofs.hand.Visited.hand_table.Given as goal

abbrev pub invariant-loop-k : goal.invariant-loop-k
invariant-loop-k l = Branched l.self.code.now l.initial.w l.self.p l.self.at l.table l.n l.t l.from l.w l.low l.k
