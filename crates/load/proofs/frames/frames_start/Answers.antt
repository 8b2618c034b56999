-- `frames::frames_start` meets its contract: the sizes so far and those of the members from one on make the whole. The measure
-- is the modules left.
use Prim.Native.Nat.{◌+◌, ◌≤◌, ◌<◌}
use mathlib.Core.List.{[]}
use mathlib.Core.Path.{◌≡◌, ap}
use native.Mathlib.Omega.{arith}
use lib.ListN.{length}
use Rattle.header.specs.declared.Header.{Header}
use Rattle.header.specs.Header.{header_of}
use Rattle.module_set.specs.Members.{members_of}
use Rattle.module_set.proofs.Shares.{member-count}
use Rattle.load.proofs.Modules.{set-few, member-sizes}
use Rattle.load.proofs.Framing.{reached-start, reached-next, reached-over}
use Rattle.load.proofs.frames.frames_start.Goals.{After-frame_size-size}
use Rattle.load.proofs.frames.frames_start.Goals as goal

-- The size is that of the record's header, and small.
sized : (c : After-frame_size-size) →
    let h = header_of c.record_of.result.now in
    (c.frame_size-size.result ≡ 3 + h.globals + h.constants) × (c.frame_size-size.result ≤ 2051)
sized c =
    let frame-size = c.frame_size-size in
    let record_of = c.record_of in
    let loop-test = c.loop-k-test in
    let loop = c.loop-k in
    let count = c.count-k-end in
    let a = c.args in
    let S = members_of a.records.now [] a.directory.now in
    let below : loop.k < length S = omega (arith, count.ensures a.records.now [], loop-test.true) in
    let own = ap header_of (record_of.ensures []) in
    let sizes = member-sizes S (c.requires []) loop.k below in
    let h = header_of record_of.result.now in
    let size : frame-size.result ≡ 3 + h.globals + h.constants =
    rw (← c.header_of-h.ensures) frame-size.ensures in (
      size,
      omega (
        arith,
        size,
        ap (λ (h : Header). h.globals) own,
        ap (λ (h : Header). h.constants) own,
        sizes.globals,
        sizes.constants,
      ),
    )

pub loop-k-init : goal.loop-k-init
loop-k-init c =
    let count = c.count-k-end in
    let a = c.args in
    let pre = c.requires in (
      omega (
        arith,
        count.ensures a.records.now [],
        member-count a.records.now [] a.directory.now,
        set-few a.records.now [] a.directory.now (pre []),
      ),
      λ lists. reached-start (members_of a.records.now lists a.directory.now),
    )

pub record_of-requires : goal.record_of-requires
record_of-requires c =
    let loop-test = c.loop-k-test in
    let loop = c.loop-k in
    omega (arith, loop.invariant.0, loop-test.true)

pub overflow_add-size : goal.overflow_add-size
overflow_add-size c =
    let loop-test = c.loop-k-test in
    let loop = c.loop-k in
    let here = sized (goal.at.overflow_add-size c).After-frame_size-size in
    omega (arith, (loop.invariant.1 []).small, loop.invariant.0, loop-test.true, here.1)

pub loop-k-preserved : goal.loop-k-preserved
loop-k-preserved c =
    let record_of = c.record_of in
    let loop-test = c.loop-k-test in
    let loop = c.loop-k in
    let count = c.count-k-end in
    let a = c.args in
    let here = sized (goal.at.loop-k-preserved c).After-frame_size-size in (
      loop.invariant.0,
      λ lists. reached-next (loop.invariant.1 lists) (omega (arith, count.ensures a.records.now lists, loop-test.true))
          record_of.result.now (record_of.ensures lists) _ here.0 here.1,
    )

pub returns : goal.returns
returns c =
    let loop-test = c.loop-k-test in
    let loop = c.loop-k in
    let count = c.count-k-end in
    let a = c.args in
    λ lists. reached-over (loop.invariant.1 lists) (omega (arith, count.ensures a.records.now lists, loop-test.false))
