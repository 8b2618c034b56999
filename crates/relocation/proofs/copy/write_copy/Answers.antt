-- `copy::write_copy` meets its contract: each turn writes the code of one member behind those before it, and what is left
-- decides. The measure is the modules left.
use Prim.Native.Nat.{◌+◌, ◌≤◌}
use mathlib.Core.List.{[]}
use mathlib.Core.Path.{refl, ap}
use native.Mathlib.Omega.{arith}
use lib.ListN.{length}
use borrow.Author.Rules.{rules}
use Rattle.module_set.specs.Members.{members_of}
use Rattle.module_set.proofs.Shares.{member-count}
use Rattle.relocation.proofs.Copying.{written_start, written_over, written-room, written_next}
use Rattle.relocation.proofs.copy.write_copy.Goals.{After-code_of-code}
use Rattle.relocation.proofs.copy.write_copy.Goals as goal

-- There is room for the code of the member.
room : (c : After-code_of-code) →
    let loop = c.loop-k in
    loop.at + length c.code_of-code.result.now ≤ length loop.copy
room c =
    let record_of = c.record_of-r in
    let loop-test = c.loop-k-test in
    let loop = c.loop-k in
    let count = c.count-k-end in
    let a = c.args in
    written-room (loop.invariant.1 []) (omega (arith, count.ensures a.records.now [], loop-test.true))
    record_of.result.now (record_of.ensures []) _ (ap length c.code_of-code.ensures)

pub loop-k-init : goal.loop-k-init
loop-k-init c =
    let count = c.count-k-end in
    let a = c.args in
    let pre = c.requires in (
      omega (arith, count.ensures [] [], member-count [] [] a.directory.now, pre.directory_len_bound),
      λ lists. written_start (members_of a.records.now lists a.directory.now) a.copy.now (pre.by_index lists),
    )

pub slice_bounds-relocate-count : goal.slice_bounds-relocate-count
slice_bounds-relocate-count c = omega (arith, room (goal.at.slice_bounds-relocate-count c).After-code_of-code)

pub slice_bounds-relocate-start : goal.slice_bounds-relocate-start
slice_bounds-relocate-start c = omega (arith, room (goal.at.slice_bounds-relocate-start c).After-code_of-code)

pub overflow_add-at : goal.overflow_add-at
overflow_add-at c =
    let loop = c.loop-k in
    let r = room (goal.at.overflow_add-at c).After-code_of-code in
    let kept = (loop.invariant.1 []).kept in
    search rules

pub loop-k-preserved : goal.loop-k-preserved
loop-k-preserved c =
    let relocate = c.relocate in
    let code_of_lem = c.code_of-code in
    let record_of = c.record_of-r in
    let loop-test = c.loop-k-test in
    let loop = c.loop-k in
    let count = c.count-k-end in
    let a = c.args in (
      loop.invariant.0,
      λ lists. written_next (loop.invariant.1 lists) (omega (arith, count.ensures a.records.now lists, loop-test.true))
          record_of.result.now (record_of.ensures lists) _ (ap length code_of_lem.ensures) _ _
          (relocate.ensures a.records.now lists) refl,
    )

pub returns : goal.returns
returns c =
    let loop-test = c.loop-k-test in
    let loop = c.loop-k in
    let count = c.count-k-end in
    let a = c.args in
    let pre = c.requires in
    λ lists.
    written_over (loop.invariant.1 lists) (omega (arith, count.ensures a.records.now lists, loop-test.false)) (pre.by_index lists)
