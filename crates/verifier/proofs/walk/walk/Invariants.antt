-- Each turn visits one offset, and what is left decides.
use Rattle.entries.specs.Listed.{listed}
use Rattle.verifier.proofs.Steps.{Walked}
use Rattle.verifier.proofs.walk.walk.Given as goal

abbrev pub invariant-loop : goal.invariant-loop
invariant-loop l = Walked l.subject.code.now (listed l.subject.libraries) l.subject.results.now l.initial.w l.w l.from l.counter
