-- `fast_external::address_external` meets its contract: the library is there, so its address is a word, and the stack has room.
use mathlib.Core.Path.{◌∙◌, sym}
use Prim.Native.Nat.{◌+◌, ◌<◌, ◌/◌}
use native.Mathlib.Omega.{arith}
use lib.ListN.{length}
use Rattle.registers.specs.Modules.{modules_in}
use Rattle.registers.specs.Program.{program}
use Rattle.registers.specs.State.{state}
use Rattle.registers.proofs.Rows.{library-row, row_within}
use Rattle.step.proofs.Running.{ready-bounds}
use Rattle.fast_external.proofs.Going.{frames-end}
use Rattle.fast_external.proofs.Data.{address-done}
use Rattle.fast_external.proofs.address_external.Goals.{After-globals_start, Else-is_no_library}
use Rattle.fast_external.proofs.address_external.Goals as goal

row : (c : Else-is_no_library) →
    let a = c.args in
    a.l < length a.table.now / 5
row c =
    let a = c.args in
    let is-no-library = c.is_no_library in
    library-row a.table.now a.copy.now a.l (sym (is-no-library.ensures a.copy.now) ∙ c.if-is_no_library.false)

low : (c : After-globals_start) → (let a = c.args in a.l < length a.table.now / 5) →
    let a = c.args in
    c.globals_start.result + a.n < 0x1_0000_0000
low c has-row =
    let a = c.args in
    let P = program a.code.now a.attributes (modules_in a.table.now a.copy.now) in
    let S = state a.q a.memory.now a.stack.now in
    omega (
      arith,
      c.globals_start.ensures.0 a.copy.now,
      row_within a.table.now a.copy.now a.l (has-row),
      frames-end P S c.requires.ready,
      c.requires.n_bound,
    )

pub overflow_cast-stack : goal.overflow_cast-stack
overflow_cast-stack c = record {
  fits = low (goal.at.overflow_cast-stack c).After-globals_start (row
      (goal.at.overflow_cast-stack c).Else-is_no_library);
}

pub overflow_cast-height-2 : goal.overflow_cast-height-2
overflow_cast-height-2 c =
    let if2 = c.if-stack-height in
    let a = c.args in
    let pre = c.requires in
    let P = program a.code.now a.attributes (modules_in a.table.now a.copy.now) in
    let S = state a.q a.memory.now a.stack.now in
    record { fits = omega (arith, if2.false, (ready-bounds P S pre.ready).deep) }

pub returns : goal.returns
returns c =
    let raised = c.raised in
    let moved = c.moved in
    let globals-start = c.globals_start in
    let if3 = c.if-code-next in
    let if2 = c.if-stack-height in
    let if1 = c.if-is_no_library in
    let is-no-library = c.is_no_library in
    let a = c.args in
    let pre = c.requires in
    let P = program a.code.now a.attributes (modules_in a.table.now a.copy.now) in
    let S = state a.q a.memory.now a.stack.now in
    rw (raised.ensures, moved.ensures)
    (address-done P S pre.ready a.next a.l a.n (sym (is-no-library.ensures a.copy.now) ∙ if1.false)
    if3.false (globals-start.result + a.n) (rw (globals-start.ensures.0 a.copy.now)) pre.decodes
    (low (goal.at.returns c).After-globals_start (row (goal.at.returns c).Else-is_no_library)) if2.false)
