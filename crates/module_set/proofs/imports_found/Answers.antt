-- `module_set::imports_found` meets its contract: every import has a module's number, or one has none.
use Prim.Native.Nat.{ℕ, ◌+◌, ◌*◌}
use mathlib.Core.Bool.{true, false, not}
use mathlib.Core.Path.{◌≡◌, ◌∙◌, refl, sym}
use lib.Dec.{eqb}
use borrow.Author.Tests.{tests}
use Rattle.std.proofs.Common.{rules}
use Rattle.std.proofs.lemmas.Iterator.{cases_from_all, YieldsList-from_range}
use Rattle.words.specs.Bytes.{word_at}
use Rattle.module_set.specs.Members.{members_of, number_of}
use Rattle.words.specs.Series.{series}
use Rattle.module_set.proofs.Among.{every-same}
use Rattle.module_set.proofs.Counting.{all-told, every-value}
use Rattle.module_set.proofs.Linking.{lent, lent-number}
use Rattle.module_set.proofs.imports_found.Goals as goal

pub returns : goal.returns
returns c = λ records lists.
    let r = c.args.r.now in
    let S = members_of records lists c.args.directory.now in
    let n = c.header_of.result.imports in
    let found = λ (x : ℕ). not (eqb (number_of S x) 0) in
    let test = λ (j : ℕ). found (word_at r (28 + 4 * j)) in
    rw (← c.header_of.ensures)
    (all-told test 0 n c.all.result
    (cases_from_all _ _ _ (λ (j : ℕ). test j ≡ true) (λ (j : ℕ). test j ≡ false) c.all.ensures.ran
    (YieldsList-from_range 0 n n refl (search rules)) (λ x q k. search (rules, tests)) (λ x q k. search (rules, tests)))
    ∙ (every-value found (word_at r) 4 28 0 n
    ∙ every-same found (lent S) (series (word_at r) 4 28 n) (λ x. sym (lent-number S x))))
