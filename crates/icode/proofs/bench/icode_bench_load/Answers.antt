-- `icode_bench_load` meets its contract: the state's length, then what load answers.
use mathlib.Core.List.{[]}
use mathlib.Core.Path.{◌∙◌}
use Rattle.header.specs.Header.{code_of}
use Rattle.module_set.specs.Members.{single}
use Rattle.icode.proofs.Benching.{load-misfit, load-parts, load_told}
use Rattle.icode.proofs.bench.icode_bench_load.Goals as goal

pub returns-then-state-ne6 : goal.returns-then-state-ne6
returns-then-state-ne6 c =
    let shown = c.number in
    let if1 = c.if-state-ne6 in
    let a = c.args in
    let r = a.bytes.now in
    load-parts 6 (single r []) a.parameters.now (code_of r) a.memory.now a.stack.now a.state.now _ _ _ _
    (load-misfit 6 (single r []) a.parameters.now (code_of r) a.memory.now a.stack.now a.state.now
    shown.result (shown.ensures ∙ c.refusal_or.ensures) if1.true)

pub returns-in-Err : goal.returns-in-Err
returns-in-Err c =
    let load = c.load in
    let if1 = c.if-state-ne6 in
    let a = c.args in
    let r = a.bytes.now in
    let replied = load_told 6 (single r []) a.parameters.now (code_of r) a.memory.now a.stack.now a.state.now
    if1.false _ _ load.ensures.0 load.ensures.1 in
    rw c.number-in-Err.ensures
    (load-parts 6 (single r []) a.parameters.now (code_of r) a.memory.now a.stack.now a.state.now _ _ _ _
    (rw c.in-Err.is at replied))

pub returns-in-Ok : goal.returns-in-Ok
returns-in-Ok c =
    let write-state = c.write_state in
    let load = c.load in
    let if1 = c.if-state-ne6 in
    let a = c.args in
    let r = a.bytes.now in
    let replied = load_told 6 (single r []) a.parameters.now (code_of r) a.memory.now a.stack.now a.state.now
    if1.false _ _ load.ensures.0 load.ensures.1 in
    rw write-state.ensures
    (load-parts 6 (single r []) a.parameters.now (code_of r) a.memory.now a.stack.now a.state.now _ _ _ _
    (rw c.in-Ok.is at replied))
