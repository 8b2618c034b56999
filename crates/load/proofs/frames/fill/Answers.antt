-- `frames::fill` meets its contract: each turn writes the data frame of one member behind those before it, and what is left
-- decides. The measure is the modules left.
use Prim.Native.Nat.{◌+◌, ◌≤◌, ◌<◌}
use mathlib.Core.List.{[]}
use mathlib.Core.Path.{◌∙◌, refl, ap}
use native.Mathlib.Omega.{arith}
use lib.ListN.{length}
use Rattle.header.specs.declared.Header.{Header}
use Rattle.header.specs.Header.{header_of}
use Rattle.module_set.specs.Members.{members_of}
use Rattle.module_set.proofs.Shares.{member-count}
use Rattle.load.proofs.Modules.{set-few, member-sizes}
use Rattle.load.proofs.Framing.{framed-start, framed-taken, framed-room, framed-part, framed-next, framed-over}
use Rattle.load.proofs.Framing.{taken-first, written-zeros}
use Rattle.load.proofs.frames.fill.Goals.{After-frame_size}
use Rattle.load.proofs.frames.fill.Goals as goal

-- There is room for the data frame.
room : (c : After-frame_size) →
    let loop = c.loop-k in
    (loop.start + c.frame_size.result ≤ length loop.memory) × (length loop.memory ≤ 16384)
room c =
    let record_of = c.record_of-r in
    let loop-test = c.loop-k-test in
    let loop = c.loop-k in
    let count = c.count-k-end in
    let cleared = c.fill in
    let a = c.args in (
      framed-room (loop.invariant.1 []) (omega (arith, count.ensures a.records.now [], loop-test.true))
          record_of.result.now (record_of.ensures []) c.header_of-h.result c.header_of-h.ensures
          c.frame_size.result c.frame_size.ensures,
      omega (arith, (loop.invariant.1 []).kept, cleared.auto.self, c.requires.memory_len_bound),
    )

pub loop-k-init : goal.loop-k-init
loop-k-init c =
    let count = c.count-k-end in
    let cleared = c.fill in
    let a = c.args in
    let pre = c.requires in (
      omega (
        arith,
        count.ensures a.records.now [],
        member-count a.records.now [] a.directory.now,
        set-few a.records.now [] a.directory.now (pre.by_index []),
      ),
      λ lists. framed-start (members_of a.records.now lists a.directory.now) a.parameters.now _
          (pre.by_index_2 lists) (omega (arith, pre.by_index_3 lists, cleared.auto.self)),
    )

pub record_of-r-requires : goal.record_of-r-requires
record_of-r-requires c =
    let loop-test = c.loop-k-test in
    let loop = c.loop-k in
    omega (arith, loop.invariant.0, loop-test.true)

pub overflow_add-next : goal.overflow_add-next
overflow_add-next c = let here = room (goal.at.overflow_add-next c).After-frame_size in omega (arith, here.0, here.1)

pub offset_bounds-memory-start : goal.offset_bounds-memory-start
offset_bounds-memory-start c =
    let here = room (goal.at.offset_bounds-memory-start c).After-frame_size in omega (arith, here.0, here.1)

pub slice_bounds-fill_frame-count : goal.slice_bounds-fill_frame-count
slice_bounds-fill_frame-count c = omega (arith, (room (goal.at.slice_bounds-fill_frame-count c).After-frame_size).0)

pub slice_bounds-fill_frame-start : goal.slice_bounds-fill_frame-start
slice_bounds-fill_frame-start c = omega (arith, (room (goal.at.slice_bounds-fill_frame-start c).After-frame_size).0)

pub slice_bounds-fill_frame-end : goal.slice_bounds-fill_frame-end
slice_bounds-fill_frame-end c = omega (arith, (room (goal.at.slice_bounds-fill_frame-end c).After-frame_size).0)

pub fill_frame-requires : goal.fill_frame-requires
fill_frame-requires c =
    let frame-size = c.frame_size in
    let record_of = c.record_of-r in
    let loop-test = c.loop-k-test in
    let loop = c.loop-k in
    let count = c.count-k-end in
    let a = c.args in
    let pre = c.requires in
    let S = members_of a.records.now [] a.directory.now in
    let below : loop.k < length S = omega (arith, count.ensures a.records.now [], loop-test.true) in
    let own = c.header_of-h.ensures ∙ ap header_of (record_of.ensures []) in
    let sizes = member-sizes S (pre.by_index []) loop.k below in
    let asks = framed-taken (loop.invariant.1 []) below record_of.result.now (record_of.ensures []) c.header_of-h.result
    c.header_of-h.ensures frame-size.result frame-size.ensures in
    let part = framed-part (loop.invariant.1 []) below record_of.result.now (record_of.ensures []) c.header_of-h.result
    c.header_of-h.ensures frame-size.result frame-size.ensures in
    let here = room (goal.at.fill_frame-requires c).After-frame_size in record {
      h_value = c.header_of-h.ensures;
      globals_bound = omega (arith, ap (λ (h : Header). h.globals) own, sizes.globals);
      k_bound = omega (arith, loop.invariant.0, loop-test.true);
      start_bound = omega (arith, here.0, here.1);
      parameters_len_bound = asks;
      frame_len = part;
    }

pub loop-k-preserved : goal.loop-k-preserved
loop-k-preserved c =
    let fill_frame = c.fill_frame in
    let frame-size = c.frame_size in
    let record_of = c.record_of-r in
    let loop-test = c.loop-k-test in
    let loop = c.loop-k in
    let count = c.count-k-end in
    let a = c.args in (
      loop.invariant.0,
      λ lists. framed-next (loop.invariant.1 lists) (omega (arith, count.ensures a.records.now lists, loop-test.true))
          record_of.result.now (record_of.ensures lists) c.header_of-h.result c.header_of-h.ensures
          frame-size.result frame-size.ensures _ _ _ fill_frame.ensures refl refl,
    )

pub returns : goal.returns
returns c =
    let loop-test = c.loop-k-test in
    let loop = c.loop-k in
    let count = c.count-k-end in
    let cleared = c.fill in
    let a = c.args in
    let pre = c.requires in
    λ lists.
    let S = members_of a.records.now lists a.directory.now in
    framed-over (loop.invariant.1 lists) (omega (arith, count.ensures a.records.now lists, loop-test.false))
    ∙ rw (cleared.ensures.after (λ y e. e)) (written-zeros S a.parameters.now (length a.memory.now)
    (taken-first S a.parameters.now (pre.by_index_2 lists)) (pre.by_index_3 lists))
