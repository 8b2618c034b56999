-- `mend::copy_pairs` meets its contract: each pair that is kept is stored behind those before it.
use Prim.Native.Nat.{◌+◌, ◌≤◌}
use mathlib.Core.Path.{refl, sym}
use native.Mathlib.Omega.{arith}
use native.Mathlib.Nat.{add-zero}
use lib.ListN.{length}
use Rattle.header.specs.Header.{record_length}
use Rattle.mend.proofs.Passing.{passed_start, passed-kept, passed-dropped}
use Rattle.mend.proofs.Sifting.{one-pair-copied, pairs-most}
use Rattle.mend.proofs.copy_pairs.Goals.{Then-kept}
use Rattle.mend.proofs.copy_pairs.Goals as goal

pub loop-at-init : goal.loop-at-init
loop-at-init c =
    let first = c.of-pairs.ensures in
    passed_start first.at first.left first.least record { stores = refl; ends = sym (add-zero _) }

-- The next place has gone at most 8 bytes a pair.
near : (c : Then-kept) → c.loop-at.next ≤ 1008192
near c =
    let s = c.loop-at.invariant in
    omega (arith, s.done.ends, s.counted, pairs-most c.args.r.now s.kept, c.requires.to_bound, c.requires.sources_bound)

pub put_bytes-requires : goal.put_bytes-requires
put_bytes-requires c = omega (arith, near (goal.at.put_bytes-requires c).Then-kept)

pub overflow_add-next : goal.overflow_add-next
overflow_add-next c = omega (arith, near (goal.at.overflow_add-next c).Then-kept)

-- The pair lies in the record.
there : (c : Then-kept) → c.in-Some.at + 8 ≤ length c.args.r.now
unfolding record_length
there c =
    let whole = c.requires.h_value in
    let t = c.in-Some.ensures in
    omega (arith, c.loop-at.invariant.place, t.0, t.3, whole)

pub loop-at-preserved-then-kept : goal.loop-at-preserved-then-kept
loop-at-preserved-then-kept c =
    let whole = there (goal.at.loop-at-preserved-then-kept c).Then-kept in
    passed-kept c.loop-at.invariant c.in-Some.ensures c.if-kept.true
    (λ kept dropped e. one-pair-copied c.in-Some.at e whole (rw c.part.ensures at c.put_bytes.ensures) refl)

pub loop-at-preserved : goal.loop-at-preserved
loop-at-preserved c = passed-dropped c.loop-at.invariant c.in-Some.ensures c.if-kept.false (λ kept dropped e. e)
