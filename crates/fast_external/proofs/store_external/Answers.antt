-- `fast_external::store_external` meets its contract: the word is a global of the library, so it is live and not protected.
use mathlib.Core.Path.{◌∙◌, sym}
use Prim.Native.Nat.{◌+◌, ◌<◌, ◌/◌}
use native.Mathlib.Omega.{arith}
use lib.ListN.{length}
use Rattle.registers.specs.Modules.{modules_in, module_at}
use Rattle.registers.specs.Program.{program}
use Rattle.registers.specs.State.{state}
use Rattle.registers.proofs.Rows.{library-row, module-row, modules-length}
use Rattle.step.proofs.Running.{ready-bounds}
use Rattle.fast_external.proofs.Data.{global-live, store-done}
use Rattle.fast_external.proofs.store_external.Goals.{Else-is_no_library, Else-row_word-n}
use Rattle.fast_external.proofs.store_external.Goals as goal

row : (c : Else-is_no_library) →
    let a = c.args in
    a.l < length a.table.now / 5
row c =
    let a = c.args in
    let is-no-library = c.is_no_library in
    library-row a.table.now a.copy.now a.l (sym (is-no-library.ensures a.copy.now) ∙ c.if-is_no_library.false)

within : (c : Else-row_word-n) → (let a = c.args in a.l < length a.table.now / 5) →
    let a = c.args in
    a.n < (module_at (modules_in a.table.now a.copy.now) a.l).globals
within c has-row =
    let a = c.args in
    rw (module-row a.table.now a.copy.now a.l (has-row), ← c.row_word.ensures.0)
    c.if-row_word-n.false

pub row_word-requires : goal.row_word-requires
row_word-requires c =
    let pre = c.requires in
    record {
      k_bound = omega (arith, row (goal.at.row_word-requires c).Else-is_no_library, pre.table_len_bound);
      i_bound = omega arith;
    }

pub bounds-stack-height : goal.bounds-stack-height
bounds-stack-height c =
    let if3 = c.if-height-eq0 in
    let a = c.args in
    let pre = c.requires in
    let P = program a.code.now a.attributes (modules_in a.table.now a.copy.now) in
    let S = state a.q a.memory.now a.stack.now in
    omega (arith, if3.false, (ready-bounds P S pre.ready).height)

pub bounds-memory-a : goal.bounds-memory-a
bounds-memory-a c =
    let globals-start = c.globals_start in
    let a = c.args in
    let pre = c.requires in
    let P = program a.code.now a.attributes (modules_in a.table.now a.copy.now) in
    let S = state a.q a.memory.now a.stack.now in
    let there : a.l < length (modules_in a.table.now a.copy.now) =
    omega (
      arith,
      row (goal.at.bounds-memory-a c).Else-is_no_library,
      modules-length a.table.now a.copy.now,
    ) in
    omega (
      arith,
      globals-start.ensures.0 a.copy.now,
      global-live P S pre.ready a.l a.n there (within (goal.at.bounds-memory-a c).Else-row_word-n (row
          (goal.at.bounds-memory-a c).Else-is_no_library)),
      (ready-bounds P S pre.ready).within,
    )

pub returns : goal.returns
returns c =
    let raised = c.raised in
    let moved = c.moved in
    let globals-start = c.globals_start in
    let if4 = c.if-code-next in
    let if3 = c.if-height-eq0 in
    let if1 = c.if-is_no_library in
    let is-no-library = c.is_no_library in
    let a = c.args in
    let pre = c.requires in
    let P = program a.code.now a.attributes (modules_in a.table.now a.copy.now) in
    let S = state a.q a.memory.now a.stack.now in
    rw (raised.ensures, moved.ensures)
    (store-done P S pre.ready a.next a.l a.n (sym (is-no-library.ensures a.copy.now) ∙ if1.false)
    if4.false (globals-start.result + a.n) (rw (globals-start.ensures.0 a.copy.now)) pre.decodes
    (within (goal.at.returns c).Else-row_word-n (row (goal.at.returns c).Else-is_no_library)) (omega (arith, if3.false)))
