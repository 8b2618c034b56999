-- What stands in a row of a library of a linked set is a word.
use mathlib.Core.Path.{◌∙◌, ap}
use native.Mathlib.Omega.{arith}
use lib.ListN.{length}
use Rattle.header.specs.Header.{code_at}
use Rattle.record.specs.Number.{record_number}
use Rattle.verifier.specs.Tables.{row_put}
use Rattle.verifier.proofs.Tables.{placed, code-near}
use Rattle.verifier.proofs.Rowing.{row-stored}
use Rattle.verifier.proofs.libraries.put_library.Goals as goal

pub share_at-before-requires-clause-k_bound : goal.share_at-before-requires-clause-k_bound
share_at-before-requires-clause-k_bound c =
    let set = c.args.set in
    (placed set.records.now set.lists.now set.directory.now set.linkable c.args.m c.requires.m_in_bounds).few

pub share_at-list-requires-clause-k_bound : goal.share_at-list-requires-clause-k_bound
share_at-list-requires-clause-k_bound c =
    let set = c.args.set in
    (placed set.records.now set.lists.now set.directory.now set.linkable c.args.m c.requires.m_in_bounds).few

pub overflow_add-before : goal.overflow_add-before
overflow_add-before c =
    let set = c.args.set in
    let P = placed set.records.now set.lists.now set.directory.now set.linkable c.args.m c.requires.m_in_bounds in
    let near = code-near c.record.result.now (ap record_number c.record.ensures ∙ P.sound) in
    let behind = c.code_at-behind.ensures ∙ ap code_at c.header_of.ensures in
    record { fits = omega (arith, P.record_near) }

pub overflow_cast-before : goal.overflow_cast-before
overflow_cast-before c =
    let set = c.args.set in
    let P = placed set.records.now set.lists.now set.directory.now set.linkable c.args.m c.requires.m_in_bounds in
    let near = code-near c.record.result.now (ap record_number c.record.ensures ∙ P.sound) in
    let behind = c.code_at-behind.ensures ∙ ap code_at c.header_of.ensures in
    omega (arith, P.record_near)

pub overflow_cast-list : goal.overflow_cast-list
overflow_cast-list c =
    let set = c.args.set in
    let P = placed set.records.now set.lists.now set.directory.now set.linkable c.args.m c.requires.m_in_bounds in
    omega (arith, P.list_near)

pub overflow_cast-results : goal.overflow_cast-results
overflow_cast-results c =
    let set = c.args.set in
    let P = placed set.records.now set.lists.now set.directory.now set.linkable c.args.m c.requires.m_in_bounds in
    omega (arith, P.list_short, ap length c.results.ensures)

pub returns : goal.returns
unfolding row_put
returns c =
    rw (
      c.set_word-4.ensures,
      c.set_word-3.ensures,
      c.set_word-2.ensures,
      c.set_word.ensures,
      c.share_at-before.ensures,
      c.code_at-behind.ensures,
      c.header_of.ensures,
      c.record.ensures,
      c.code.ensures.value,
      c.share_at-list.ensures,
      c.results.ensures,
    )
    (row-stored c.args.table.now c.args.j _ _ _ _)
