-- `module_set::list_of` meets its contract: the share that the member's row says.
use mathlib.Core.Path.{◌∙◌, sym, ap}
use Rattle.module_set.specs.Members.{Member}
use Rattle.module_set.proofs.Shares.{member-row}
use Rattle.module_set.proofs.list_of.Goals as goal

pub returns : goal.returns
returns c =
    let part = c.part in
    let share-at = c.share_at in
    let row_word = c.row_word-size in
    let a = c.args in
    λ records.
    part.ensures ∙ rw (share-at.ensures, row_word.ensures)
    (sym (ap (λ (M : Member). M.results) (member-row records a.lists.now a.directory.now a.k)))
