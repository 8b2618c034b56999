-- `control::call_external_effect` meets its contract: library, callee, depth, memory, in this order.
use mathlib.Core.Path.{◌≡◌, ◌∙◌, sym}
use Prim.Native.Nat.{◌+◌, ◌<◌, ◌/◌}
use native.Mathlib.Omega.{arith}
use lib.ListN.{length}
use borrow.Author.Tests.{le-leb, lt-leb}
use Rattle.registers.specs.Modules.{modules_in, module_at}
use Rattle.registers.proofs.Rows.{library-row, module-row, row_within}
use Rattle.control.specs.Control.{call_external_effect}
use Rattle.control.proofs.call_external_effect.Goals.{After-part-code, Else-is_no_library}
use Rattle.control.proofs.call_external_effect.Goals as goal

-- There is a library of that number, so the table has its row.
row : (c : Else-is_no_library) → c.args.l < length c.args.table.now / 5
row c =
    let a = c.args in
    let is-no-library = c.is_no_library in
    library-row a.table.now a.copy.now a.l (sym (is-no-library.ensures a.copy.now) ∙ c.if-is_no_library.false)

code_is : (c : After-part-code) → c.args.l < length c.args.table.now / 5 →
    let a = c.args in
    c.part-code.result.now ≡ (module_at (modules_in a.table.now a.copy.now) a.l).code
code_is c has-row =
    let a = c.args in
    rw (module-row a.table.now a.copy.now a.l (has-row), ← c.row_word.ensures.0, ← c.row_word-2.ensures.0) c.part-code.ensures

pub returns-then-is_no_library : goal.returns-then-is_no_library
unfolding call_external_effect
returns-then-is_no_library c =
    let if1 = c.if-is_no_library in
    let is-no-library = c.is_no_library in
    let a = c.args in
    rw (← is-no-library.ensures a.copy.now, if1.true)

pub row_word-requires : goal.row_word-requires
row_word-requires c =
    let pre = c.requires in
    record {
      k_bound = omega (arith, row (goal.at.row_word-requires c).Else-is_no_library, pre.table_len_bound);
      i_bound = omega arith;
    }

pub returns-then-is_no_callee : goal.returns-then-is_no_callee
unfolding call_external_effect
returns-then-is_no_callee c =
    let if2 = c.if-is_no_callee in
    let is-no-callee = c.is_no_callee in
    let if1 = c.if-is_no_library in
    let is-no-library = c.is_no_library in
    let a = c.args in
    rw (
      ← is-no-library.ensures a.copy.now,
      if1.false,
      ← code_is (goal.at.returns-then-is_no_callee c).After-part-code (row
          (goal.at.returns-then-is_no_callee c).Else-is_no_library),
      ← is-no-callee.ensures,
      if2.true,
    )

pub row_word-requires-2 : goal.row_word-requires-2
row_word-requires-2 c =
    let pre = c.requires in
    record {
      k_bound = omega (arith, row (goal.at.row_word-requires-2 c).Else-is_no_library, pre.table_len_bound);
      i_bound = omega arith;
    }

pub returns-then-q-ge64 : goal.returns-then-q-ge64
unfolding call_external_effect
returns-then-q-ge64 c =
    let if3 = c.if-q-ge64 in
    let if2 = c.if-is_no_callee in
    let is-no-callee = c.is_no_callee in
    let if1 = c.if-is_no_library in
    let is-no-library = c.is_no_library in
    let a = c.args in
    rw (
      ← is-no-library.ensures a.copy.now,
      if1.false,
      ← code_is (goal.at.returns-then-q-ge64 c).After-part-code (row (goal.at.returns-then-q-ge64 c).Else-is_no_library),
      ← is-no-callee.ensures,
      if2.false,
      le-leb 64 a.q.calls if3.true,
    )

pub returns-then-m-q : goal.returns-then-m-q
unfolding call_external_effect
returns-then-m-q c =
    let if4 = c.if-m-q in
    let if3 = c.if-q-ge64 in
    let if2 = c.if-is_no_callee in
    let is-no-callee = c.is_no_callee in
    let if1 = c.if-is_no_library in
    let is-no-library = c.is_no_library in
    let a = c.args in
    rw (
      ← is-no-library.ensures a.copy.now,
      if1.false,
      ← code_is (goal.at.returns-then-m-q c).After-part-code (row (goal.at.returns-then-m-q c).Else-is_no_library),
      ← is-no-callee.ensures,
      if2.false,
      lt-leb 64 a.q.calls (omega (arith, if3.false)),
      lt-leb (a.q.mp + 3) (length a.m.now) if4.true,
    )

pub overflow_cast-gp : goal.overflow_cast-gp
overflow_cast-gp c =
    let globals-start = c.globals_start-gp in
    let a = c.args in
    let pre = c.requires in
    omega (
      arith,
      globals-start.ensures.0 a.copy.now,
      row_within a.table.now a.copy.now a.l (row
          (goal.at.overflow_cast-gp c).Else-is_no_library),
      pre.copy_bound,
    )

pub returns : goal.returns
unfolding call_external_effect
returns c =
    let called = c.called in
    let negated = c.negated in
    let globals-start = c.globals_start-gp in
    let entry_at = c.entry_at-entry in
    let if4 = c.if-m-q in
    let if3 = c.if-q-ge64 in
    let if2 = c.if-is_no_callee in
    let is-no-callee = c.is_no_callee in
    let if1 = c.if-is_no_library in
    let is-no-library = c.is_no_library in
    let a = c.args in
    rw (
      ← is-no-library.ensures a.copy.now,
      if1.false,
      ← code_is (goal.at.returns c).After-part-code (row (goal.at.returns c).Else-is_no_library),
      ← is-no-callee.ensures,
      if2.false,
      lt-leb 64 a.q.calls (omega (arith, if3.false)),
      le-leb (a.q.mp + 3) (length a.m.now) if4.false,
      negated.ensures,
      called.ensures,
      globals-start.ensures.0 a.copy.now,
      entry_at.ensures,
    )
