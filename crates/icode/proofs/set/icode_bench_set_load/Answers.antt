-- `icode_bench_set_load` meets its contract: the state's length, then what load answers.
use mathlib.Core.Path.{◌∙◌}
use Rattle.module_set.specs.Members.{members_of}
use Rattle.icode.proofs.Benching.{load-misfit, load-replied}
use Rattle.icode.proofs.set.icode_bench_set_load.Goals as goal

pub returns-then-state-ne7 : goal.returns-then-state-ne7
returns-then-state-ne7 c =
    let shown = c.number in
    let if1 = c.if-state-ne7 in
    let a = c.args in
    λ lists.
    let S = members_of a.records.now lists a.directory.now in
    load-misfit 7 S a.parameters.now a.copy.now a.memory.now a.stack.now a.state.now
    shown.result (shown.ensures ∙ c.refusal_or.ensures lists) if1.true

pub returns-in-Err : goal.returns-in-Err
returns-in-Err c =
    let Load-set = c.load_set in
    let if1 = c.if-state-ne7 in
    let a = c.args in
    λ lists.
    let S = members_of a.records.now lists a.directory.now in
    let replied =
    load-replied 7 S a.parameters.now a.copy.now a.memory.now a.stack.now a.state.now
    if1.false _ _ _ (Load-set.ensures lists).0 in
    rw c.number-in-Err.ensures (rw c.in-Err.is at replied)

pub returns-in-Ok : goal.returns-in-Ok
returns-in-Ok c =
    let write-set-state = c.write_set_state in
    let Load-set = c.load_set in
    let if1 = c.if-state-ne7 in
    let a = c.args in
    λ lists.
    let S = members_of a.records.now lists a.directory.now in
    let replied =
    load-replied 7 S a.parameters.now a.copy.now a.memory.now a.stack.now a.state.now
    if1.false _ _ _ (Load-set.ensures lists).0 in
    rw write-set-state.ensures (rw c.in-Ok.is at replied)
