-- The numbers up to 9, 17 and 18, then the code without libraries.
use mathlib.Core.Path.{◌≡◌, ◌∙◌, sym}
use native.Mathlib.Omega.{arith}
use lib.ListN.{length}
use Rattle.std.proofs.Common.{rules}
use Rattle.numbers.specs.Number.{number_of, number}
use Rattle.numbers.proofs.Refusing.{no-number}
use Rattle.entries.proofs.Rows.{none-held}
use Rattle.module_set.specs.Members.{single}
use Rattle.verifier.specs.Check.{set_check}
use Rattle.verifier.proofs.Records.{a-module, listed, list-refuses, code-bytes}
use Rattle.verifier.proofs.Ruling.{no-libraries, examined-single}
use Rattle.verifier.proofs.check.check.Goals as goal

pub returns-in_err-list_number : goal.returns-in_err-list_number
returns-in_err-list_number c =
    let a = c.args in
    let same : number c.from_residual.result ≡ number_of c.in_err-list_number.field-0.0 = search rules in
    rw same (list-refuses (single a.r.now a.results.now) 0 a.w.now _ c.in_err-list_number.ensures (no-number _))

pub invariant_of-subject : goal.invariant_of-subject
invariant_of-subject c =
    let a = c.args in
    let S = single a.r.now a.results.now in
    let L = listed S 0 (length a.w.now) (sym c.in_ok-list_number.ensures) in
    let small = (a-module S 0 L.linkable.numberless L.inside).small in
    record {
      code_len_bound = rw c.code_of.ensures (omega arith);
      bytes = rw c.code_of.ensures (code-bytes a.r.now (λ k. (c.type_inv.r k).fits));
    }

pub examine_in-requires : goal.examine_in-requires
examine_in-requires c =
    let a = c.args in
    let S = single a.r.now a.results.now in
    let L = listed S 0 (length a.w.now) (sym c.in_ok-list_number.ensures) in
    record {
      sound = rw c.code_of.ensures (a-module S 0 L.linkable.numberless L.inside).entries;
      room = rw c.code_of.ensures L.enough;
    }

pub returns : goal.returns
unfolding set_check
returns c =
    let a = c.args in
    let none = sym c.in_ok-list_number.ensures in
    let L = listed (single a.r.now a.results.now) 0 (length a.w.now) none in
    let verdict = examined-single a.r.now a.results.now in
    c.examine_in.ensures
    ∙ rw (
      none-held a.r.now a.results.now,
      ← no-libraries a.r.now a.results.now L.linkable.numberless,
      c.code_of.ensures,
      verdict,
      none,
    )
