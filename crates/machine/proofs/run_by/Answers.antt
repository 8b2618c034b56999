-- `machine::run_by` meets its contract: the record's number, else its one row is run.
use mathlib.Core.List.{[]}
use mathlib.Core.Path.{◌≡◌, ◌∙◌, refl, sym}
use native.Mathlib.Omega.{arith}
use Rattle.numbers.specs.Number.{number_of}
use Rattle.numbers.proofs.Refusing.{no-number}
use Rattle.record.proofs.Sound.{handed-on}
use Rattle.header.specs.Header.{code_of}
use Rattle.module_set.specs.Members.{single}
use Rattle.relocation.specs.Relocation.{set_number}
use Rattle.registers.specs.Modules.{modules_in}
use Rattle.registers.specs.State.{state}
use Rattle.load.specs.Modules.{modules_of}
use Rattle.run.proofs.Taking.{with_number, run-refused, run-decided, main-there, alone-copied}
use Rattle.machine.proofs.Tabled.{tabled-count, tabled-frames, tabled-short}
use Rattle.machine.proofs.run_by.Goals as goal

pub returns-in_err-single_number : goal.returns-in_err-single_number
returns-in_err-single_number c =
    let e = c.in_err-single_number.field-0.0 in
    let a = c.args in
    let One = single a.r.now [] in
    let T = state a.q a.memory.now a.stack.now in
    rw (handed-on c.from_residual.result e c.from_residual.ensures.1)
    (with_number One (code_of a.r.now) 0 T a.budget a.q _ _ _
    (run-refused One (code_of a.r.now) 0 T a.budget (number_of e) (c.in_err-single_number.ensures []) (no-number e)))

pub single_row-requires : goal.single_row-requires
single_row-requires c =
    let sound = c.in_ok-single_number in
    record {
      r_value = sym (sound.ensures []);
      table_len = refl;
    }

pub run_rows-requires : goal.run_rows-requires
run_rows-requires c =
    let code_of_lem = c.code_of in
    let single-row = c.single_row in
    let sound = c.in_ok-single_number in
    let a = c.args in
    let One = single a.r.now [] in
    let none : set_number One ≡ 0 = sym (sound.ensures []) in
    let row = single-row.new.table in
    let code = code_of_lem.result.now in
    let same : modules_in row code ≡ modules_of One = rw code_of_lem.ensures single-row.ensures.1 in record {
      table_len_bound = omega (arith, single-row.auto.table);
      member_in_bounds = omega (arith, tabled-count One none row code same, main-there One none);
      by_index = tabled-frames One none row code same;
      short = tabled-short One none row code same;
    }

pub returns : goal.returns
returns c =
    let run-rows = c.run_rows in
    let code_of_lem = c.code_of in
    let single-row = c.single_row in
    let sound = c.in_ok-single_number in
    let a = c.args in
    let One = single a.r.now [] in
    let T = state a.q a.memory.now a.stack.now in
    let none : set_number One ≡ 0 = sym (sound.ensures []) in
    let row = single-row.new.table in
    let same : modules_in row code_of_lem.result.now ≡ modules_of One = rw code_of_lem.ensures single-row.ensures.1 in
    with_number One (code_of a.r.now) 0 T a.budget a.q _ _ _
    ((rw same at run-rows.ensures) ∙ run-decided One (code_of a.r.now) 0 T a.budget none
    (alone-copied a.r.now none) (main-there One none))
