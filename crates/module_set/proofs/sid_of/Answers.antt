-- `module_set::sid_of` meets its contract: the first word of a member's row.
use mathlib.Core.Path.{◌∙◌, sym, ap}
use Rattle.module_set.specs.Members.{Member}
use Rattle.module_set.proofs.Shares.{member-row}
use Rattle.module_set.proofs.sid_of.Goals as goal

pub returns : goal.returns
returns c =
    let row_word = c.row_word in
    let a = c.args in
    λ records lists.
    row_word.ensures ∙ sym (ap (λ (M : Member). M.sid) (member-row records lists a.directory.now a.k))
