-- `module_set::is_linked` meets its contract: the number of modules, then the SIDs, then the imports of every member decide, for
-- every results lists.
use Prim.Native.Nat.{ℕ, ◌-◌}
use mathlib.Core.Bool.{true, false}
use mathlib.Core.Path.{◌≡◌, ◌∙◌, refl, sym}
use native.Mathlib.Omega.{arith}
use lib.ListN.{length}
use borrow.Author.Tests.{leb-true, tests}
use Rattle.std.proofs.Common.{rules}
use Rattle.std.proofs.lemmas.Iterator.{cases_from_all, YieldsList-from_range}
use Rattle.module_set.specs.Members.{members_of, member_at}
use Rattle.module_set.specs.Linked.{every_member}
use Rattle.module_set.proofs.Counting.{all-told}
use Rattle.module_set.proofs.Every.{every-counted}
use Rattle.module_set.proofs.Linking.{imports_lent, linked-many, linked-alike, linked-each}
use Rattle.module_set.proofs.is_linked.Goals.{then-modules-le16, else-modules-le16}
use Rattle.module_set.proofs.is_linked.Goals as goal

pub returns-then-sids_differ : goal.returns-then-sids_differ
returns-then-sids_differ c = λ lists.
    let records = c.args.records.now in
    let S = members_of records lists c.args.directory.now in
    let n = c.count-modules.result in
    let count = c.count-modules.ensures records lists in
    let test = λ (k : ℕ). imports_lent S (member_at S k) in
    let left : length S - 0 ≡ n = omega (arith, count) in
    let each : c.all.result ≡ every_member (imports_lent S) S =
    all-told test 0 n c.all.result
    (cases_from_all _ _ _ (λ (k : ℕ). test k ≡ true) (λ (k : ℕ). test k ≡ false) c.all.ensures.ran
    (YieldsList-from_range 0 n n refl (search rules)) (λ x q k. search (rules, tests)) (λ x q k. search (rules, tests)))
    ∙ every-counted (imports_lent S) S n 0 left in
    elim c.if-modules-le16.branch [
      | then-modules-le16 w ↦
          each ∙ sym (linked-each S (omega (arith, count, w.if-modules-le16.true))
          (sym (w.sids_differ.ensures records lists) ∙ (sym w.value-is ∙ c.if-sids_differ.true)))
      | else-modules-le16 w ↦
          absurd (omega (arith, leb-true n 16 (sym w.value-is ∙ c.if-sids_differ.true), w.if-modules-le16.false))
    ]

pub returns-else-sids_differ : goal.returns-else-sids_differ
returns-else-sids_differ c = λ lists.
    let records = c.args.records.now in
    let S = members_of records lists c.args.directory.now in
    let count = c.count-modules.ensures records lists in
    elim c.if-modules-le16.branch [
      | then-modules-le16 w ↦
          c.if-sids_differ.false
          ∙ linked-alike S (sym (w.sids_differ.ensures records lists) ∙ (sym w.value-is ∙ c.if-sids_differ.false))
      | else-modules-le16 w ↦ c.if-sids_differ.false ∙ linked-many S (omega (arith, count, w.if-modules-le16.false))
    ]
