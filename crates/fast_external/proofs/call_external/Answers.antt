-- `fast_external::call_external` meets its contract: the tests are those of CALL_E, and the part is the library's code.
use mathlib.Core.Path.{◌≡◌, ◌∙◌, sym}
use Prim.Native.Nat.{◌<◌, ◌/◌}
use native.Mathlib.Omega.{arith}
use lib.ListN.{length, length-set}
use Rattle.registers.specs.Modules.{modules_in, module_at}
use Rattle.registers.specs.Program.{program}
use Rattle.registers.specs.State.{state}
use Rattle.registers.proofs.Rows.{library-row, module-row, row_within}
use Rattle.fast_external.proofs.Going.{frames-end, call-external-done}
use Rattle.step.proofs.Running.{ready-bounds}
use Rattle.fast_external.proofs.call_external.Goals.{After-part-part, Else-is_no_library}
use Rattle.fast_external.proofs.call_external.Goals as goal

row : (c : Else-is_no_library) →
    let a = c.args in
    a.l < length a.table.now / 5
row c =
    let a = c.args in
    let is-no-library = c.is_no_library in
    library-row a.table.now a.copy.now a.l (sym (is-no-library.ensures a.copy.now) ∙ c.if-is_no_library.false)

code_is : (c : After-part-part) → (let a = c.args in a.l < length a.table.now / 5) →
    let a = c.args in
    c.part-part.result.now ≡ (module_at (modules_in a.table.now a.copy.now) a.l).code
code_is c has-row =
    let a = c.args in
    rw (
      module-row a.table.now a.copy.now a.l (has-row),
      ← c.row_word.ensures.0,
      ← c.row_word-2.ensures.0,
    ) c.part-part.ensures

pub row_word-requires : goal.row_word-requires
row_word-requires c =
    let pre = c.requires in
    record {
      k_bound = omega (arith, row (goal.at.row_word-requires c).Else-is_no_library, pre.table_len_bound);
      i_bound = omega arith;
    }

pub row_word-requires-2 : goal.row_word-requires-2
row_word-requires-2 c =
    let pre = c.requires in
    record {
      k_bound = omega (arith, row (goal.at.row_word-requires-2 c).Else-is_no_library, pre.table_len_bound);
      i_bound = omega arith;
    }

pub overflow_cast-gp : goal.overflow_cast-gp
overflow_cast-gp c =
    let globals-start = c.globals_start-gp in
    let a = c.args in
    let pre = c.requires in
    let P = program a.code.now a.attributes (modules_in a.table.now a.copy.now) in
    let S = state a.q a.memory.now a.stack.now in
    record {
      fits = omega (
        arith,
        globals-start.ensures.0 a.copy.now,
        row_within a.table.now a.copy.now a.l
            (row (goal.at.overflow_cast-gp c).Else-is_no_library),
        frames-end P S pre.ready,
      );
    }

pub bounds-memory-old-2 : goal.bounds-memory-old-2
bounds-memory-old-2 c =
    let if4 = c.if-memory-old in
    rw (length-set) (omega (arith, if4.false))

pub bounds-memory-old-3 : goal.bounds-memory-old-3
bounds-memory-old-3 c =
    let if4 = c.if-memory-old in
    rw (length-set, length-set) (omega (arith, if4.false))

pub called-requires : goal.called-requires
called-requires c =
    let if4 = c.if-memory-old in
    let if3 = c.if-q-ge64 in
    let a = c.args in
    let pre = c.requires in
    let P = program a.code.now a.attributes (modules_in a.table.now a.copy.now) in
    let S = state a.q a.memory.now a.stack.now in
    record {
      links_bound = omega (arith, if4.false, (ready-bounds P S pre.ready).room);
      calls_bound = omega (arith, if3.false);
    }

pub returns : goal.returns
returns c =
    let called = c.called in
    let negated = c.negated in
    let globals-start = c.globals_start-gp in
    let if5 = c.if-part-entry in
    let entry_at = c.entry_at-entry in
    let if4 = c.if-memory-old in
    let if3 = c.if-q-ge64 in
    let if2 = c.if-is_no_callee in
    let is-no-callee = c.is_no_callee in
    let part = c.part-part in
    let if1 = c.if-is_no_library in
    let is-no-library = c.is_no_library in
    let a = c.args in
    let pre = c.requires in
    let P = program a.code.now a.attributes (modules_in a.table.now a.copy.now) in
    let S = state a.q a.memory.now a.stack.now in
    rw (called.ensures, negated.ensures, globals-start.ensures.0 a.copy.now, entry_at.ensures)
    (call-external-done P S pre.ready a.next a.l a.p pre.decodes
    (sym (is-no-library.ensures a.copy.now) ∙ if1.false) part.result.now
    (code_is (goal.at.returns c).After-part-part (row (goal.at.returns c).Else-is_no_library))
    (sym is-no-callee.ensures ∙ if2.false) (omega (arith, if3.false)) if4.false
    (rw entry_at.ensures at if5.false))
