-- `module_set::record_of` meets its contract: the share that the member's row says.
use mathlib.Core.Path.{◌∙◌, sym, ap}
use Rattle.module_set.specs.Members.{Member}
use Rattle.module_set.proofs.Shares.{member-row}
use Rattle.module_set.proofs.record_of.Goals as goal

pub returns : goal.returns
returns c =
    let part = c.part in
    let share-at = c.share_at in
    let row_word = c.row_word-size in
    let a = c.args in
    λ lists.
    part.ensures ∙ rw (share-at.ensures, row_word.ensures)
    (sym (ap (λ (M : Member). M.bytes) (member-row a.records.now lists a.directory.now a.k)))
