-- `module_set::number_of` meets its contract: libraries stand from row 1 on.
use mathlib.Core.Path.{◌∙◌, sym}
use Rattle.module_set.proofs.Sids.{number-found}
use Rattle.module_set.proofs.number_of.Goals as goal

pub returns : goal.returns
returns c =
    let number-from = c.number_from in
    let a = c.args in
    λ records lists. number-from.ensures ∙ sym (number-found records lists a.directory.now a.sid)
