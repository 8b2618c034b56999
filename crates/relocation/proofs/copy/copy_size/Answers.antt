-- `copy::copy_size` meets its contract: the sizes so far and those of the members from one on make the whole. The measure is
-- the modules left.
use Prim.Native.Nat.{◌≤◌, ◌<◌}
use mathlib.Core.List.{[]}
use mathlib.Core.Path.{◌≡◌, ◌∙◌, ap}
use native.Mathlib.Omega.{arith}
use lib.ListN.{length}
use Rattle.record.proofs.Sound.{sound-code}
use Rattle.record.specs.Number.{record_number}
use Rattle.module_set.specs.Members.{members_of}
use Rattle.module_set.proofs.Every.{members-sound}
use Rattle.module_set.proofs.Shares.{member-count}
use Rattle.relocation.proofs.Copying.{counted_start, counted_next}
use Rattle.relocation.proofs.copy.copy_size.Goals.{After-code_of-code}
use Rattle.relocation.proofs.copy.copy_size.Goals as goal

-- The code of a member is small.
small : (c : After-code_of-code) → length c.code_of-code.result.now ≤ 4096
small c =
    let record_of = c.record_of in
    let loop-test = c.loop-k-test in
    let loop = c.loop-k in
    let count = c.count-k-end in
    let a = c.args in
    let S = members_of a.records.now [] a.directory.now in
    let below : loop.k < length S = omega (arith, count.ensures a.records.now [], loop-test.true) in
    let sound : record_number record_of.result.now ≡ 0 =
    ap record_number (record_of.ensures []) ∙ members-sound S (c.requires.by_index []) loop.k below in
    omega (arith, sound-code record_of.result.now sound, ap length c.code_of-code.ensures)

pub loop-k-init : goal.loop-k-init
loop-k-init c =
    let count = c.count-k-end in
    let a = c.args in
    let pre = c.requires in (
      omega (arith, count.ensures [] [], member-count [] [] a.directory.now, pre.directory_len_bound),
      λ lists. counted_start (members_of a.records.now lists a.directory.now),
    )

pub overflow_add-size : goal.overflow_add-size
overflow_add-size c =
    let loop-test = c.loop-k-test in
    let loop = c.loop-k in
    let few = small (goal.at.overflow_add-size c).After-code_of-code in
    omega (arith, (loop.invariant.1 []).small, loop.invariant.0, loop-test.true, few)

pub loop-k-preserved : goal.loop-k-preserved
loop-k-preserved c =
    let code_of_lem = c.code_of-code in
    let record_of = c.record_of in
    let loop-test = c.loop-k-test in
    let loop = c.loop-k in
    let count = c.count-k-end in
    let a = c.args in
    let few = small (goal.at.loop-k-preserved c).After-code_of-code in (
      loop.invariant.0,
      λ lists. counted_next (loop.invariant.1 lists) (omega (arith, count.ensures a.records.now lists, loop-test.true))
          record_of.result.now (record_of.ensures lists) _ (ap length code_of_lem.ensures) few,
    )
