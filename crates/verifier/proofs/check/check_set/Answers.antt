-- The numbers up to 9, 17 and 18, then those of the codes.
use mathlib.Core.Path.{◌≡◌, sym}
use lib.ListN.{length}
use Rattle.std.proofs.Common.{rules}
use Rattle.numbers.specs.Number.{number_of, number}
use Rattle.numbers.proofs.Refusing.{no-number}
use Rattle.module_set.specs.Members.{members_of}
use Rattle.verifier.proofs.Records.{listed, list-refuses}
use Rattle.verifier.proofs.check.check_set.Goals as goal

pub returns-in_err-set_list_number : goal.returns-in_err-set_list_number
returns-in_err-set_list_number c =
    let a = c.args in
    let same : number c.from_residual.result ≡ number_of c.in_err-set_list_number.field-0.0 = search rules in
    rw same
    (list-refuses (members_of a.records.now a.lists.now a.directory.now) a.own a.w.now _ c.in_err-set_list_number.ensures (no-number _))

pub invariant_of-judge : goal.invariant_of-judge
invariant_of-judge c =
    let a = c.args in
    record {
      linkable =
          (listed (members_of a.records.now a.lists.now a.directory.now) a.own (length a.w.now) (sym c.in_ok-set_list_number.ensures)).linkable;
    }
