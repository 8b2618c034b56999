-- `module_set::resolve` meets its contract: an import's SID is looked up among the libraries.
use mathlib.Core.Path.{◌∙◌, sym}
use Rattle.module_set.specs.Members.{members_of}
use Rattle.module_set.proofs.Linking.{resolved-none, resolved-past, resolved-import}
use Rattle.module_set.proofs.resolve.Goals.{then-l-eq0-via-then-l-eq0, then-l-eq0-via-else-l-eq0+then-header_of-l}
use Rattle.module_set.proofs.resolve.Goals as goal

pub returns-then-l-eq0 : goal.returns-then-l-eq0
returns-then-l-eq0 c = λ records lists.
    let a = c.args in
    let S = members_of records lists a.directory.now in
    elim c.then-l-eq0.branch [
      | then-l-eq0-via-then-l-eq0 w ↦ resolved-none S a.r.now a.l w.if-l-eq0.true
      | then-l-eq0-via-else-l-eq0+then-header_of-l w ↦
          resolved-past S a.r.now a.l (rw w.header_of.ensures at w.if-header_of-l.true)
    ]

pub returns : goal.returns
returns c = λ records lists.
    let a = c.args in
    c.number_of.ensures records lists ∙ rw c.word_at.ensures
    (sym (resolved-import (members_of records lists a.directory.now) a.r.now a.l c.if-l-eq0.false
    (rw c.header_of.ensures at c.if-header_of-l.false)))
