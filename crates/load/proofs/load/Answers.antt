-- `load::load` meets its contract: the record's number, then the parameters' and the sizes', else memory is filled.
use mathlib.Core.List.{[]}
use mathlib.Core.Path.{◌≡◌, ◌∙◌, sym, ap}
use Rattle.numbers.specs.Number.{number_of}
use Rattle.numbers.proofs.Refusing.{no-number}
use Rattle.record.proofs.Sound.{handed-on}
use native.Mathlib.Omega.{arith}
use Rattle.header.specs.declared.Header.{Header}
use Rattle.module_set.specs.Members.{single}
use Rattle.relocation.specs.Relocation.{set_number}
use Rattle.registers.specs.Program.{program_at}
use Rattle.load.specs.Modules.{modules_of}
use Rattle.load.proofs.Loading.{alone-refused, alone-many, alone-short, alone-sizes, alone-ready}
use Rattle.load.proofs.Loading.{alone-frames, alone-code, main-base}
use Rattle.load.proofs.load.Goals as goal

pub returns-in_err-single_number : goal.returns-in_err-single_number
returns-in_err-single_number c =
    let e = c.in_err-single_number.field-0.0 in
    let a = c.args in
    rw (handed-on c.from_residual.result e c.from_residual.ensures.1)
    (alone-refused a.r.now a.parameters.now a.memory.now a.stack.now (number_of e)
    (c.in_err-single_number.ensures []) (no-number e))

pub returns-then-h-parameters : goal.returns-then-h-parameters
returns-then-h-parameters c =
    let if2 = c.if-h-parameters in
    let header_of = c.header_of-h in
    let a = c.args in
    let none = sym (c.in_ok-single_number.ensures []) in
    alone-many a.r.now a.parameters.now a.memory.now a.stack.now
    none header_of.result header_of.ensures if2.true

pub returns-then-not-sizes_taken : goal.returns-then-not-sizes_taken
returns-then-not-sizes_taken c =
    let if3 = c.if-not-sizes_taken in
    let sizes-taken = c.sizes_taken in
    let frame-size = c.frame_size-size in
    let if2 = c.if-h-parameters in
    let header_of = c.header_of-h in
    let a = c.args in
    let none = sym (c.in_ok-single_number.ensures []) in
    alone-short a.r.now a.parameters.now a.memory.now a.stack.now
    none header_of.result header_of.ensures if2.false
    frame-size.result frame-size.ensures sizes-taken.result sizes-taken.ensures
    (if3.true)

pub fill_single-requires : goal.fill_single-requires
fill_single-requires c =
    let if3 = c.if-not-sizes_taken in
    let sizes-taken = c.sizes_taken in
    let frame-size = c.frame_size-size in
    let if2 = c.if-h-parameters in
    let header_of = c.header_of-h in
    let a = c.args in
    let none = sym (c.in_ok-single_number.ensures []) in
    let own = header_of.ensures in
    let sizes = alone-sizes a.r.now a.parameters.now a.memory.now a.stack.now
    none header_of.result header_of.ensures if2.false
    frame-size.result frame-size.ensures sizes-taken.result sizes-taken.ensures
    (if3.false) in record {
      r_value = none;
      parameters_len_bound = omega (arith, ap (λ (h : Header). h.globals) own, if2.false);
      r_in_bounds = omega (
        arith,
        ap (λ (h : Header). h.globals) own,
        ap (λ (h : Header). h.constants) own,
        frame-size.ensures,
        sizes.0,
      );
    }

pub start_of-requires : goal.start_of-requires
start_of-requires c =
    let if3 = c.if-not-sizes_taken in
    let sizes-taken = c.sizes_taken in
    let frame-size = c.frame_size-size in
    let if2 = c.if-h-parameters in
    let header_of = c.header_of-h in
    let a = c.args in
    let none = sym (c.in_ok-single_number.ensures []) in
    (alone-sizes a.r.now a.parameters.now a.memory.now a.stack.now
    none header_of.result header_of.ensures if2.false
    frame-size.result frame-size.ensures sizes-taken.result sizes-taken.ensures
    (if3.false)).1

pub returns : goal.returns
returns c =
    let start_of_lem = c.start_of in
    let code_of_lem = c.code_of in
    let fill-single = c.fill_single in
    let if3 = c.if-not-sizes_taken in
    let sizes-taken = c.sizes_taken in
    let frame-size = c.frame_size-size in
    let if2 = c.if-h-parameters in
    let header_of = c.header_of-h in
    let a = c.args in
    let none : set_number (single a.r.now []) ≡ 0 = sym (c.in_ok-single_number.ensures []) in
    let S = single a.r.now [] in
    let first = start_of_lem.ensures (program_at (modules_of S) 0)
    (alone-code a.r.now none header_of.result header_of.ensures frame-size.result frame-size.ensures
    ∙ sym code_of_lem.ensures) (main-base (modules_of S))
    (alone-frames a.r.now none header_of.result header_of.ensures frame-size.result frame-size.ensures) in
    alone-ready a.r.now a.parameters.now a.memory.now a.stack.now
    none header_of.result header_of.ensures if2.false
    frame-size.result frame-size.ensures sizes-taken.result sizes-taken.ensures
    (if3.false) start_of_lem.result _ first fill-single.ensures
