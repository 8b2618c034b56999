-- `bench_set_run` meets its contract: the lengths, then what run answers.
use mathlib.Core.Path.{◌∙◌, refl}
use lib.Dec.{leb}
use lib.ListN.{length}
use borrow.Author.Tests.{le-leb, lt-leb}
use Rattle.module_set.specs.Members.{members_of}
use Rattle.icode.proofs.Benching.{run-misfit, run-untaken, run-replied}
use Rattle.icode.proofs.set.bench_set_run.Goals as goal

pub returns-then-state-ne7 : goal.returns-then-state-ne7
returns-then-state-ne7 c =
    let shown = c.number in
    let if1 = c.if-state-ne7 in
    let a = c.args in
    λ lists.
    let S = members_of a.records.now lists a.directory.now in
    run-misfit 7 4 (leb 4 (length a.outcome.now)) S a.copy.now a.budget a.memory.now a.stack.now
    a.state.now a.outcome.now shown.result (shown.ensures ∙ c.refusal_or.ensures lists) if1.true

pub returns-then-outcome-lt4 : goal.returns-then-outcome-lt4
returns-then-outcome-lt4 c =
    let shown = c.number-then-outcome-lt4 in
    let if2 = c.if-outcome-lt4 in
    let if1 = c.if-state-ne7 in
    let a = c.args in
    λ lists.
    let S = members_of a.records.now lists a.directory.now in
    run-untaken 7 4 (leb 4 (length a.outcome.now)) S a.copy.now a.budget a.memory.now a.stack.now
    a.state.now a.outcome.now shown.result (shown.ensures ∙ c.refusal_or-then-outcome-lt4.ensures lists) if1.false
    (lt-leb 4 (length a.outcome.now) if2.true)

pub returns-in-Err : goal.returns-in-Err
returns-in-Err c =
    let run-set-by = c.run_set_by-answer in
    let read-state = c.read_state-q in
    let if2 = c.if-outcome-lt4 in
    let if1 = c.if-state-ne7 in
    let a = c.args in
    λ lists.
    let S = members_of a.records.now lists a.directory.now in
    let replied =
    run-replied 7 4 (leb 4 (length a.outcome.now)) S a.copy.now a.budget a.memory.now a.stack.now
    a.state.now a.outcome.now if1.false (le-leb 4 (length a.outcome.now) if2.false) _ read-state.ensures
    _ refl _ _ _ (run-set-by.ensures lists).0 in
    rw c.number-in-Err.ensures (rw c.in-Err.is at replied)

pub returns-in-Ok : goal.returns-in-Ok
returns-in-Ok c =
    let write-set-state = c.write_set_state in
    let write-set-outcome = c.write_set_outcome in
    let run-set-by = c.run_set_by-answer in
    let read-state = c.read_state-q in
    let if2 = c.if-outcome-lt4 in
    let if1 = c.if-state-ne7 in
    let a = c.args in
    λ lists.
    let S = members_of a.records.now lists a.directory.now in
    let replied =
    run-replied 7 4 (leb 4 (length a.outcome.now)) S a.copy.now a.budget a.memory.now a.stack.now
    a.state.now a.outcome.now if1.false (le-leb 4 (length a.outcome.now) if2.false) _ read-state.ensures
    _ refl _ _ _ (run-set-by.ensures lists).0 in
    rw (write-set-outcome.ensures, write-set-state.ensures) (rw c.in-Ok.is at replied)
