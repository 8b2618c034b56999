-- `module_set::sids_differ` meets its contract: no SID of a row is that of a row behind it.
use Prim.Native.Nat.{ℕ, ◌+◌, ◌-◌, ◌/◌}
use mathlib.Core.Bool.{true, false}
use mathlib.Core.Path.{◌≡◌, ◌∙◌, refl}
use lib.Dec.{eqb}
use lib.ListN.{length}
use borrow.Author.Tests.{tests}
use Rattle.std.proofs.Common.{rules}
use Rattle.std.proofs.lemmas.Iterator.{cases_from_all, YieldsList-from_range}
use Rattle.module_set.specs.Rows.{row_word, sids_in, seek_from}
use Rattle.module_set.proofs.Counting.{all-told}
use Rattle.module_set.proofs.Sids.{library-sids, rows-distinct}
use Rattle.module_set.proofs.sids_differ.Goals as goal

pub returns : goal.returns
returns c = λ records lists.
    let d = c.args.directory.now in
    let n = length d / 4 in
    let test = λ (i : ℕ). eqb (seek_from (i + 1) (sids_in d (i + 1) (n - (i + 1))) (row_word d i 0)) 0 in
    rw (library-sids records lists d)
    (all-told test 1 (n - 1) c.all.result
    (cases_from_all _ _ _ (λ (i : ℕ). test i ≡ true) (λ (i : ℕ). test i ≡ false) c.all.ensures.ran
    (YieldsList-from_range 1 n (n - 1) refl refl) (λ x q k. search (rules, tests)) (λ x q k. search (rules, tests)))
    ∙ rows-distinct d n (n - 1) 1 refl)
