-- `module_set::number_from` meets its contract: the first row that has the SID, or none.
use Prim.Native.Nat.{ℕ, ◌/◌}
use mathlib.Core.Path.{◌≡◌, ◌∙◌}
use lib.ListN.{length}
use borrow.Author.Tests.{tests}
use Rattle.std.proofs.Common.{rules}
use Rattle.std.proofs.lemmas.Iterator.{first_from_Range}
use Rattle.module_set.specs.Rows.{row_word}
use Rattle.module_set.proofs.Sids.{found-first}
use Rattle.module_set.proofs.number_from.Goals as goal

pub returns : goal.returns
returns c =
    let a = c.args in
    let d = a.directory.now in
    c.unwrap_or.ensures
    ∙ found-first d a.sid (length d / 4) a.first c.find.result
    (first_from_Range _ _ _ c.find.result (λ (i : ℕ). row_word d i 0 ≡ a.sid) (λ (i : ℕ). row_word d i 0 ≡ a.sid → ⊥)
    c.find.ensures.ran (λ x q k. search (rules, tests)) (λ x q k. search (rules, tests)))
