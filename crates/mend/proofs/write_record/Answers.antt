-- `mend::write_record` meets its contract: the pieces of the new record stand one behind the other.
use Prim.Native.Nat.{◌*◌, ◌≤◌}
use mathlib.Core.Path.{◌≡◌, ◌∙◌, ap}
use lib.Seq.{sets}
use native.Mathlib.Omega.{arith}
use Rattle.header.specs.Header.{record_length, versions_at}
use Rattle.mend.specs.Mend.{word_bytes}
use Rattle.mend.proofs.Measuring.{Measures, measures, mended-stored}
use Rattle.mend.proofs.Pieces.{big-endian}
use Rattle.mend.proofs.write_record.Goals.{After-versions_at}
use Rattle.mend.proofs.write_record.Goals as goal

known : (c : After-versions_at) →
    let a = c.args in
    Measures a.r.now a.h × (c.versions_at.result ≡ versions_at a.h) × (a.versions ≤ 16) × (a.pairs ≤ 1024)
known c =
    let a = c.args in
    let m = measures a.r.now a.h c.requires.r_value c.requires.h_value in (
      m,
      c.versions_at.ensures,
      omega (arith, c.requires.versions_value, m.versions, m.sizes.versions),
      omega (arith, c.requires.pairs_value, m.counted, m.sizes.sources),
    )

pub overflow_add-body : goal.overflow_add-body
overflow_add-body c = let k = known (goal.at.overflow_add-body c).After-versions_at in omega (arith, k.0.near, k.1)

pub overflow_mul-pairs : goal.overflow_mul-pairs
overflow_mul-pairs c =
    omega (arith, (known (goal.at.overflow_mul-pairs c).After-versions_at).3)

pub overflow_sub-body : goal.overflow_sub-body
overflow_sub-body c =
    let k = known (goal.at.overflow_sub-body c).After-versions_at in
    omega (arith, k.0.front, k.1)

pub copy_pairs-requires : goal.copy_pairs-requires
unfolding record_length
copy_pairs-requires c =
    let k = known (goal.at.copy_pairs-requires c).After-versions_at in record {
      to_bound = omega (arith, k.0.near, k.1, k.2);
      sources_bound = k.0.sizes.sources;
      h_value = omega (arith, k.0.whole, k.0.sources);
    }

pub returns : goal.returns
returns c =
    let a = c.args in
    let k = known (goal.at.returns c).After-versions_at in
    let versions : c.put_bytes-2.new.out ≡ sets c.put_bytes.new.out 20 (word_bytes a.versions) =
    c.put_bytes-2.ensures ∙ ap (sets c.put_bytes.new.out 20) (c.to_be_bytes.ensures ∙ big-endian a.versions (omega (arith, k.2))) in
    let pairs : c.put_bytes-3.new.out ≡ sets c.put_bytes-2.new.out 24 (word_bytes (2 * a.pairs)) =
    c.put_bytes-3.ensures
    ∙ ap (sets c.put_bytes-2.new.out 24) (c.to_be_bytes-2.ensures ∙ big-endian (2 * a.pairs) (omega (arith, k.3))) in
    rw (
      c.copy_pairs.ensures,
      c.put_bytes-4.ensures,
      c.part-2.ensures,
      pairs,
      versions,
      c.put_bytes.ensures,
      c.part.ensures,
      c.versions_at.ensures,
      c.requires.versions_value,
      c.requires.pairs_value,
      c.requires.h_value,
    ) (mended-stored a.r.now c.requires.r_value a.out.now)
