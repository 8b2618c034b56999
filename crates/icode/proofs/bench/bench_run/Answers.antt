-- `bench_run` meets its contract: the lengths, then what run answers.
use mathlib.Core.List.{[]}
use mathlib.Core.Path.{◌≡◌, ◌∙◌, sym}
use native.Mathlib.Omega.{arith}
use lib.Dec.{eqb}
use lib.ListN.{length, get_or}
use borrow.Author.Tests.{eq-eqb, ne_eqb}
use Rattle.words.proofs.Bytes.{byte_past}
use Rattle.header.specs.Header.{code_of}
use Rattle.module_set.specs.Members.{single}
use Rattle.icode.proofs.Benching.{run-misfit, run-untaken, run-replied}
use Rattle.icode.proofs.bench.bench_run.Goals as goal

pub returns-then-state-ne6 : goal.returns-then-state-ne6
returns-then-state-ne6 c =
    let shown = c.number in
    let if1 = c.if-state-ne6 in
    let a = c.args in
    let r = a.bytes.now in
    run-misfit 6 3 (eqb (length a.outcome.now) 3) (single r []) (code_of r) a.budget a.memory.now a.stack.now
    a.state.now a.outcome.now shown.result (shown.ensures ∙ c.refusal_or.ensures) if1.true

pub returns-then-outcome-ne3 : goal.returns-then-outcome-ne3
returns-then-outcome-ne3 c =
    let shown = c.number-then-outcome-ne3 in
    let if2 = c.if-outcome-ne3 in
    let if1 = c.if-state-ne6 in
    let a = c.args in
    let r = a.bytes.now in
    run-untaken 6 3 (eqb (length a.outcome.now) 3) (single r []) (code_of r) a.budget a.memory.now a.stack.now
    a.state.now a.outcome.now shown.result (shown.ensures ∙ c.refusal_or-then-outcome-ne3.ensures) if1.false
    (ne_eqb (length a.outcome.now) 3 if2.true)

pub returns-in-Err : goal.returns-in-Err
returns-in-Err c =
    let run_by = c.run_by in
    let read-state = c.read_state-q in
    let if2 = c.if-outcome-ne3 in
    let if1 = c.if-state-ne6 in
    let a = c.args in
    let r = a.bytes.now in
    let main : 0 ≡ get_or a.state.now 6 0 = sym (byte_past a.state.now 6 (omega (arith, if1.false))) in
    let replied =
    run-replied 6 3 (eqb (length a.outcome.now) 3) (single r []) (code_of r) a.budget a.memory.now a.stack.now
    a.state.now a.outcome.now if1.false (eq-eqb (length a.outcome.now) 3 if2.false) _ read-state.ensures
    0 main _ _ _ run_by.ensures.0 in
    rw c.number-in-Err.ensures (rw c.in-Err.is at replied)

pub returns-in-Ok : goal.returns-in-Ok
returns-in-Ok c =
    let write-state = c.write_state in
    let write-outcome = c.write_outcome in
    let run_by = c.run_by in
    let read-state = c.read_state-q in
    let if2 = c.if-outcome-ne3 in
    let if1 = c.if-state-ne6 in
    let a = c.args in
    let r = a.bytes.now in
    let main : 0 ≡ get_or a.state.now 6 0 = sym (byte_past a.state.now 6 (omega (arith, if1.false))) in
    let replied =
    run-replied 6 3 (eqb (length a.outcome.now) 3) (single r []) (code_of r) a.budget a.memory.now a.stack.now
    a.state.now a.outcome.now if1.false (eq-eqb (length a.outcome.now) 3 if2.false) _ read-state.ensures
    0 main _ _ _ run_by.ensures.0 in
    rw (write-outcome.ensures, write-state.ensures) (rw c.in-Ok.is at replied)
