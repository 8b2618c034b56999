-- `copy::is_relocated` meets its contract: with the entries marked, the bytes compared are those as rewritten.
use mathlib.Core.List.{List}
use mathlib.Core.Path.{◌∙◌, ap}
use Prim.Native.Nat.{ℕ}
use Rattle.module_set.specs.Members.{members_of}
use Rattle.relocation.specs.Relocation.{begins}
use Rattle.relocation.proofs.Sound.{relocated-marked}
use Rattle.relocation.proofs.copy.is_relocated.Goals as goal

pub returns : goal.returns
returns c =
    let agrees = c.agrees in
    let mark-entries = c.mark_entries in
    let code_of_lem = c.code_of-code in
    let a = c.args in
    let pre = c.requires in
    λ records lists.
    let S = members_of records lists a.directory.now in
    agrees.ensures records lists
    ∙ rw (mark-entries.ensures, code_of_lem.ensures)
    (ap (λ (xs : List ℕ). begins xs a.part.now) (relocated-marked a.r.now pre.r_value S))
