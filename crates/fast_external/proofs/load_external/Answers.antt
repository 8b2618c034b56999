-- `fast_external::load_external` meets its contract: the library is there, its word is live, and the stack has room.
use mathlib.Core.Path.{◌∙◌, sym}
use Prim.Native.Nat.{◌+◌}
use native.Mathlib.Omega.{arith}
use Rattle.registers.specs.Modules.{modules_in}
use Rattle.registers.specs.Program.{program}
use Rattle.registers.specs.State.{state}
use Rattle.step.proofs.Running.{ready-bounds}
use Rattle.fast_external.proofs.Data.{load-done}
use Rattle.fast_external.proofs.load_external.Goals as goal

pub bounds-memory-a : goal.bounds-memory-a
bounds-memory-a c =
    let if2 = c.if-q-a in
    let a = c.args in
    let pre = c.requires in
    let P = program a.code.now a.attributes (modules_in a.table.now a.copy.now) in
    let S = state a.q a.memory.now a.stack.now in
    omega (arith, if2.false, (ready-bounds P S pre.ready).within)

pub overflow_cast-height-2 : goal.overflow_cast-height-2
overflow_cast-height-2 c =
    let if3 = c.if-stack-height in
    let a = c.args in
    let pre = c.requires in
    let P = program a.code.now a.attributes (modules_in a.table.now a.copy.now) in
    let S = state a.q a.memory.now a.stack.now in
    record { fits = omega (arith, if3.false, (ready-bounds P S pre.ready).deep) }

pub returns : goal.returns
returns c =
    let raised = c.raised in
    let moved = c.moved in
    let if4 = c.if-code-next in
    let if3 = c.if-stack-height in
    let if2 = c.if-q-a in
    let globals-start = c.globals_start in
    let if1 = c.if-is_no_library in
    let is-no-library = c.is_no_library in
    let a = c.args in
    let pre = c.requires in
    let P = program a.code.now a.attributes (modules_in a.table.now a.copy.now) in
    let S = state a.q a.memory.now a.stack.now in
    rw (raised.ensures, moved.ensures)
    (load-done P S pre.ready a.next a.l a.n (sym (is-no-library.ensures a.copy.now) ∙ if1.false)
    if4.false (globals-start.result + a.n) (rw (globals-start.ensures.0 a.copy.now)) pre.decodes
    if2.false if3.false)
