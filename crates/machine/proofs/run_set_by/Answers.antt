-- `machine::run_set_by` meets its contract: the set's number, 24 by the copy or the module, else its rows are run.
use mathlib.Core.Bool.{true}
use mathlib.Core.List.{List, []}
use mathlib.Core.Path.{◌≡◌, ◌∙◌, sym}
use Prim.Native.Nat.{ℕ, ◌*◌}
use native.Mathlib.Omega.{arith}
use Rattle.numbers.specs.Number.{number_of}
use Rattle.numbers.proofs.Refusing.{no-number}
use Rattle.record.proofs.Sound.{handed-on}
use lib.ListN.{take, length-take}
use Rattle.module_set.specs.Members.{members_of}
use Rattle.relocation.specs.Relocation.{set_number, copy_of, begins}
use Rattle.relocation.proofs.Sound.{set_sound}
use Rattle.registers.specs.Modules.{modules_in}
use Rattle.registers.specs.State.{state}
use Rattle.load.specs.Modules.{modules_of}
use Rattle.load.proofs.Modules.{modules-length, set-few}
use Rattle.run.proofs.Taking.{with_number, run-refused, run-uncopied, run-outside, run-decided, rows_few}
use Rattle.machine.proofs.Tabled.{tabled-count, tabled-frames, tabled-short}
use Rattle.machine.proofs.run_set_by.Goals as goal

pub returns-in_err-set_number : goal.returns-in_err-set_number
returns-in_err-set_number c =
    let e = c.in_err-set_number.field-0.0 in
    let a = c.args in
    λ lists.
    let S = members_of a.records.now lists a.directory.now in
    let T = state a.q a.memory.now a.stack.now in
    rw (handed-on c.from_residual.result e c.from_residual.ensures.1)
    (with_number S a.copy.now a.member T a.budget a.q _ _ _
    (run-refused S a.copy.now a.member T a.budget (number_of e) (c.in_err-set_number.ensures lists) (no-number e)))

pub is_copy-requires : goal.is_copy-requires
is_copy-requires c =
    let sound = c.in_ok-set_number in
    let a = c.args in
    let none : (lists : List ℕ) → set_number (members_of a.records.now lists a.directory.now) ≡ 0 =
    λ lists. sym (sound.ensures lists) in record {
      directory_len_bound = set-few a.records.now [] a.directory.now (none []);
      by_index = λ lists. (set_sound (members_of a.records.now lists a.directory.now) (none lists)).records;
    }

pub returns-then-not-is_copy : goal.returns-then-not-is_copy
returns-then-not-is_copy c =
    let if2 = c.if-not-is_copy in
    let is-copy = c.is_copy in
    let sound = c.in_ok-set_number in
    let a = c.args in
    λ lists.
    let S = members_of a.records.now lists a.directory.now in
    let T = state a.q a.memory.now a.stack.now in
    with_number S a.copy.now a.member T a.budget a.q _ _ _
    (run-uncopied S a.copy.now a.member T a.budget (sym (sound.ensures lists))
    (sym (is-copy.ensures lists) ∙ if2.true))

pub returns-then-n-member : goal.returns-then-n-member
returns-then-n-member c =
    let if3 = c.if-n-member in
    let count = c.count-n in
    let if2 = c.if-not-is_copy in
    let is-copy = c.is_copy in
    let sound = c.in_ok-set_number in
    let a = c.args in
    λ lists.
    let S = members_of a.records.now lists a.directory.now in
    let T = state a.q a.memory.now a.stack.now in
    let many = count.ensures a.records.now lists in
    with_number S a.copy.now a.member T a.budget a.q _ _ _
    (run-outside S a.copy.now a.member T a.budget (sym (sound.ensures lists))
    (sym (is-copy.ensures lists) ∙ if2.false)
    (omega (arith, modules-length S, many, if3.true)))

pub fill_table-requires : goal.fill_table-requires
fill_table-requires c =
    let sound = c.in_ok-set_number in
    let a = c.args in
    let none : (lists : List ℕ) → set_number (members_of a.records.now lists a.directory.now) ≡ 0 =
    λ lists. sym (sound.ensures lists) in
    record {
      by_index = none;
      by_index_2 = λ lists. rows_few (members_of a.records.now lists a.directory.now) (none lists);
    }

pub overflow_mul-rows : goal.overflow_mul-rows
overflow_mul-rows c =
    let count = c.count-n in
    let sound = c.in_ok-set_number in
    let a = c.args in
    let none = sym (sound.ensures []) in
    let S = members_of a.records.now [] a.directory.now in
    omega (arith, count.ensures a.records.now [], rows_few S none)

pub slice_bounds-rows-end : goal.slice_bounds-rows-end
slice_bounds-rows-end c =
    let fill-table = c.fill_table in
    let count = c.count-n in
    let sound = c.in_ok-set_number in
    let a = c.args in
    let none = sym (sound.ensures []) in
    let S = members_of a.records.now [] a.directory.now in
    omega (arith, count.ensures a.records.now [], rows_few S none, fill-table.auto.table)

pub slice_bounds-run_rows-end : goal.slice_bounds-run_rows-end
slice_bounds-run_rows-end c =
    let fill-table = c.fill_table in
    let count = c.count-n in
    let sound = c.in_ok-set_number in
    let a = c.args in
    let none = sym (sound.ensures []) in
    let S = members_of a.records.now [] a.directory.now in
    omega (
      arith,
      count.ensures a.records.now [],
      rows_few S none,
      fill-table.auto.table,
      length-take (5 * count.result) fill-table.new.table,
    )

pub run_rows-requires : goal.run_rows-requires
run_rows-requires c =
    let fill-table = c.fill_table in
    let if3 = c.if-n-member in
    let count = c.count-n in
    let if2 = c.if-not-is_copy in
    let is-copy = c.is_copy in
    let sound = c.in_ok-set_number in
    let a = c.args in
    let S = members_of a.records.now [] a.directory.now in
    let none : set_number S ≡ 0 = sym (sound.ensures []) in
    let many = count.ensures a.records.now [] in
    let rows = fill-table.new.table in
    let copied : begins (copy_of S) a.copy.now ≡ true = sym (is-copy.ensures []) ∙ if2.false in
    let t = take (5 * count.result) rows in
    let same : modules_in t a.copy.now ≡ modules_of S = rw many (fill-table.ensures.1 [] a.copy.now copied) in record {
      table_len_bound = omega (arith, many, rows_few S none, length-take (5 * count.result) rows);
      member_in_bounds = omega (arith, many, modules-length S, tabled-count S none t a.copy.now same, if3.false);
      by_index = tabled-frames S none t a.copy.now same;
      short = tabled-short S none t a.copy.now same;
    }

pub returns : goal.returns
returns c =
    let run-rows = c.run_rows in
    let fill-table = c.fill_table in
    let if3 = c.if-n-member in
    let count = c.count-n in
    let if2 = c.if-not-is_copy in
    let is-copy = c.is_copy in
    let sound = c.in_ok-set_number in
    let a = c.args in
    λ lists.
    let S = members_of a.records.now lists a.directory.now in
    let T = state a.q a.memory.now a.stack.now in
    let none : set_number S ≡ 0 = sym (sound.ensures lists) in
    let many = count.ensures a.records.now lists in
    let rows = fill-table.new.table in
    let copied : begins (copy_of S) a.copy.now ≡ true =
    sym (is-copy.ensures lists) ∙ if2.false in
    let same : modules_in (take (5 * count.result) rows) a.copy.now ≡ modules_of S =
    rw many (fill-table.ensures.1 lists a.copy.now copied) in
    with_number S a.copy.now a.member T a.budget a.q _ _ _
    ((rw same at run-rows.ensures) ∙ run-decided S a.copy.now a.member T a.budget none copied
    (omega (arith, modules-length S, many, if3.false)))
