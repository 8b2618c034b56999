-- `marks::all_listed` meets its contract: every offset passes the test, or one does not.
use Prim.Native.Nat.{ℕ}
use mathlib.Core.Bool.{true, false}
use mathlib.Core.Path.{◌≡◌, refl}
use lib.ListN.{length}
use borrow.Author.Tests.{tests}
use Rattle.std.proofs.Common.{rules}
use Rattle.std.proofs.lemmas.Iterator.{cases_from_all, YieldsList-from_range}
use Rattle.module_set.proofs.Counting.{all-told}
use Rattle.relocation.specs.Marks.{listed_at}
use Rattle.relocation.proofs.marks.all_listed.Goals as goal

pub returns : goal.returns
returns c =
    let a = c.args in
    let test = listed_at a.code.now a.imports a.places.now a.entries.now in
    let n = length a.code.now in
    all-told test 0 n c.all.result
    (cases_from_all _ _ _ (λ (x : ℕ). test x ≡ true) (λ (x : ℕ). test x ≡ false) c.all.ensures.ran
    (YieldsList-from_range 0 n n refl (search rules)) (λ x q k. search (rules, tests)) (λ x q k. search (rules, tests)))
