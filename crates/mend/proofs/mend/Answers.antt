-- `mend::mend` meets its contract: the tests are those of the definition, in the same order, by the lengths of the record and
-- the list.
use Prim.Native.Nat.{◌+◌, ◌*◌, ◌-◌, ◌/◌, ◌≤◌, ◌<◌}
use mathlib.Core.Path.{◌≡◌, sym}
use native.Mathlib.Omega.{arith}
use lib.ListN.{length}
use Rattle.header.specs.Header.{versions_at}
use Rattle.record.specs.Number.{size_number}
use Rattle.mend.specs.Mend.{mended_record, dropped_words}
use Rattle.record.proofs.Sound.{handed-on}
use Rattle.mend.proofs.Measuring.{Measures, measures, mended-length, dropped-length}
use Rattle.mend.proofs.Answering.{size-refuses, record-too-long, list-too-long, both-fit}
use Rattle.mend.proofs.mend.Goals.{After-versions_at, Else-out-bytes, Else-places-dropped}
use Rattle.mend.proofs.mend.Goals.{Then-out-bytes, Then-places-dropped}
use Rattle.mend.proofs.mend.Goals as goal

pub returns-in_err-h : goal.returns-in_err-h
returns-in_err-h c =
    let a = c.args in
    let e = c.in_err-h.field-0.0 in
    rw (handed-on c.from_residual.result e c.from_residual.ensures.1)
    (size-refuses a.r.now a.out.now a.places.now e c.in_err-h.ensures.number)

-- No number refuses the record.
none : (c : After-versions_at) → size_number c.args.r.now ≡ 0
none c = sym c.in_ok-h.ensures.number

-- What is known of the sizes once they are counted.
known : (c : After-versions_at) →
    let h = c.in_ok-h.h in
    Measures c.args.r.now h
    × (c.versions_left-versions.result ≤ h.versions)
    × (c.pairs_kept-pairs.result ≤ h.sources / 2)
    × (c.versions_at.result ≡ versions_at h)
known c =
    let r = c.args.r.now in
    let h = c.in_ok-h.h in
    let m = measures r h (none c) c.in_ok-h.ensures.header in (
      m,
      omega (arith, c.versions_left-versions.ensures, m.versions),
      omega (arith, c.pairs_kept-pairs.ensures, m.counted),
      c.versions_at.ensures,
    )

record-length : (c : After-versions_at) →
    c.versions_at.result + 4 * c.versions_left-versions.result + 8 * c.pairs_kept-pairs.result
    ≡ length (mended_record c.args.r.now)
record-length c =
    rw (c.versions_at.ensures, c.pairs_kept-pairs.ensures, c.versions_left-versions.ensures, c.in_ok-h.ensures.header)
    (sym (mended-length c.args.r.now (none c)))

list_length : (c : After-versions_at) →
    let h = c.in_ok-h.h in
    h.versions - c.versions_left-versions.result + (h.sources - 2 * c.pairs_kept-pairs.result)
    ≡ length (dropped_words c.args.r.now)
list_length c =
    rw (c.pairs_kept-pairs.ensures, c.versions_left-versions.ensures, c.in_ok-h.ensures.header)
    (sym (dropped-length c.args.r.now (none c)))

pub overflow_add-bytes : goal.overflow_add-bytes
overflow_add-bytes c =
    let at = goal.at.overflow_add-bytes c in
    let k = known at.After-versions_at in
    omega (arith, k.0.near, k.3)

pub overflow_add-bytes-2 : goal.overflow_add-bytes-2
overflow_add-bytes-2 c =
    let at = goal.at.overflow_add-bytes-2 c in
    let k = known at.After-versions_at in
    omega (arith, k.0.near, k.3)

-- What the tests tell of the new record and of the list, by their lengths.
record-long : (c : Then-out-bytes) →
    c.versions_at.result + 4 * c.versions_left-versions.result + 8 * c.pairs_kept-pairs.result
    ≡ length (mended_record c.args.r.now) →
    length c.args.out.now < length (mended_record c.args.r.now)
record-long c long = omega (arith, long, c.if-out-bytes.true)

record-fits : (c : Else-out-bytes) →
    c.versions_at.result + 4 * c.versions_left-versions.result + 8 * c.pairs_kept-pairs.result
    ≡ length (mended_record c.args.r.now) →
    length (mended_record c.args.r.now) ≤ length c.args.out.now
record-fits c long = omega (arith, long, c.if-out-bytes.false)

list-long : (c : Then-places-dropped) →
    let h = c.in_ok-h.h in
    h.versions - c.versions_left-versions.result + (h.sources - 2 * c.pairs_kept-pairs.result)
    ≡ length (dropped_words c.args.r.now) →
    length c.args.places.now < length (dropped_words c.args.r.now)
list-long c long = omega (arith, long, c.if-places-dropped.true)

list-fits : (c : Else-places-dropped) →
    let h = c.in_ok-h.h in
    h.versions - c.versions_left-versions.result + (h.sources - 2 * c.pairs_kept-pairs.result)
    ≡ length (dropped_words c.args.r.now) →
    length (dropped_words c.args.r.now) ≤ length c.args.places.now
list-fits c long = omega (arith, long, c.if-places-dropped.false)

pub returns-then-out-bytes : goal.returns-then-out-bytes
returns-then-out-bytes c =
    let a = c.args in
    let at = goal.at.returns-then-out-bytes c in
    let clean = none at.After-versions_at in
    record-too-long a.r.now a.out.now a.places.now clean
    (record-long at.Then-out-bytes (record-length at.After-versions_at))

pub overflow_mul-dropped : goal.overflow_mul-dropped
overflow_mul-dropped c =
    let at = goal.at.overflow_mul-dropped c in
    let k = known at.After-versions_at in
    omega (arith, k.2, k.0.sizes.sources)

pub overflow_sub-dropped-2 : goal.overflow_sub-dropped-2
overflow_sub-dropped-2 c =
    let at = goal.at.overflow_sub-dropped-2 c in
    let k = known at.After-versions_at in
    omega (arith, k.2)

pub overflow_add-dropped : goal.overflow_add-dropped
overflow_add-dropped c =
    let at = goal.at.overflow_add-dropped c in
    let k = known at.After-versions_at in
    omega (arith, k.0.sizes.versions, k.0.sizes.sources)

pub returns-then-places-dropped : goal.returns-then-places-dropped
returns-then-places-dropped c =
    let a = c.args in
    let at = goal.at.returns-then-places-dropped c in
    let clean = none at.After-versions_at in
    list-too-long a.r.now a.out.now a.places.now clean
    (record-fits at.Else-out-bytes (record-length at.After-versions_at))
    (list-long at.Then-places-dropped (list_length at.After-versions_at))

pub returns : goal.returns
returns c =
    let a = c.args in
    let at = goal.at.returns c in
    let clean = none at.After-versions_at in
    let long = record-length at.After-versions_at in
    let listed = list_length at.After-versions_at in
    rw (c.write_places.ensures, c.write_record.ensures, long, listed)
    (both-fit a.r.now a.out.now a.places.now clean (record-fits at.Else-out-bytes long)
    (list-fits at.Else-places-dropped listed))
