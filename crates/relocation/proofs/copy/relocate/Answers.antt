-- `copy::relocate` meets its contract: the code, and over it the new numbers.
use Rattle.module_set.specs.Members.{members_of}
use Rattle.relocation.proofs.Rewriting.{rewritten-all}
use Rattle.relocation.proofs.copy.relocate.Goals as goal

pub returns : goal.returns
returns c =
    let put-modules = c.put_modules in
    let put-code = c.put_code in
    let code_of_lem = c.code_of-code in
    let a = c.args in
    λ records lists.
    rw (put-modules.ensures records lists, put-code.ensures, code_of_lem.ensures)
    (rewritten-all (members_of records lists a.directory.now) a.r.now a.part.now)
