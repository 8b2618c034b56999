-- The rows before `j` are filled, and those from `j` on decide the whole table.
use Prim.Native.Nat.{◌+◌, ◌*◌, ◌≤◌}
use mathlib.Core.Path.{◌≡◌, ◌∙◌, ap}
use native.Mathlib.Omega.{arith}
use Rattle.words.specs.Bytes.{word_at}
use Rattle.header.specs.declared.Header.{Header}
use Rattle.module_set.specs.Members.{number_of}
use Rattle.verifier.specs.Lent.{members}
use Rattle.verifier.proofs.Records.{imports-few}
use Rattle.verifier.proofs.Tables.{number-inside}
use Rattle.verifier.proofs.Rowing.{filled-start, filled_next, filled-all, stored-start, stored_next, stored-all}
use Rattle.verifier.proofs.libraries.fill_libraries.Goals.{After-header_of-imports}
use Rattle.verifier.proofs.libraries.fill_libraries.Goals as goal

few : (c : After-header_of-imports) → c.header_of-imports.result.imports ≤ 16
few c =
    let set = c.args.set in
    rw (c.header_of-imports.ensures, c.record-r.ensures) (imports-few (members set) c.args.k set.linkable.numberless c.requires)

pub loop-j-init : goal.loop-j-init
loop-j-init c =
    let set = c.args.set in (
      filled-start set.records.now set.lists.now set.directory.now c.record-r.result.now c.args.table.now c.told-table,
      stored-start set.records.now set.lists.now set.directory.now c.record-r.result.now c.args.table.now,
    )

pub put_library-requires : goal.put_library-requires
put_library-requires c =
    let S = members c.args.set in
    let inside = number-inside S c.word_at.result (omega (arith, c.requires)) in
    let number = c.number_of-m.ensures c.args.set.records.now c.args.set.lists.now in
    record {
      j_bound = omega (arith, c.loop-j-test.true, few (goal.at.put_library-requires c).After-header_of-imports);
      m_in_bounds = rw number inside;
    }

pub loop-j-preserved : goal.loop-j-preserved
loop-j-preserved c =
    let set = c.args.set in
    let l = c.loop-j in
    let imports = ap (λ (h : Header). h.imports) c.header_of-imports.ensures in
    let number : c.number_of-m.result ≡ number_of (members set) (word_at c.record-r.result.now (28 + 4 * l.j)) =
    c.number_of-m.ensures set.records.now set.lists.now ∙ rw c.word_at.ensures in (
      filled_next set.records.now set.lists.now set.directory.now c.record-r.result.now l.table l.j c.number_of-m.result _ l.invariant.0
          (omega (arith, c.loop-j-test.true, few (goal.at.loop-j-preserved c).After-header_of-imports)) number c.put_library.ensures,
      stored_next set.records.now set.lists.now set.directory.now c.record-r.result.now c.args.table.now l.table l.j
          c.number_of-m.result _ l.invariant.1 (omega (arith, c.loop-j-test.true, imports)) number c.put_library.ensures,
    )

pub returns-clause-few : goal.returns-clause-few
returns-clause-few c = omega (arith, few (goal.at.returns-clause-few c).After-header_of-imports)

pub returns-clause-rows : goal.returns-clause-rows
returns-clause-rows c =
    let set = c.args.set in
    let done : c.loop-j.j ≡ c.header_of-imports.result.imports = omega (arith, c.loop-j-test.false) in
    let imports = ap (λ (h : Header). h.imports) c.header_of-imports.ensures in
    stored-all set.records.now set.lists.now set.directory.now c.record-r.result.now c.args.table.now c.loop-j.table
    c.loop-j.j c.loop-j.invariant.1 (done ∙ imports)
    ∙ rw c.record-r.ensures

pub returns-clause-held : goal.returns-clause-held
returns-clause-held c =
    let set = c.args.set in
    let done : c.loop-j.j ≡ c.header_of-imports.result.imports = omega (arith, c.loop-j-test.false) in
    let imports = ap (λ (h : Header). h.imports) c.header_of-imports.ensures in
    filled-all set.records.now set.lists.now set.directory.now c.record-r.result.now c.loop-j.table
    c.header_of-imports.result.imports (rw done at c.loop-j.invariant.0) imports (few (goal.at.returns-clause-held c).After-header_of-imports)
    ∙ rw c.record-r.ensures
