-- `mend::write_places` meets its contract: the lists of dropped words stand one behind the other.
use Prim.Native.Nat.{◌/◌, ◌≤◌}
use native.Mathlib.Omega.{arith}
use Rattle.mend.proofs.Measuring.{Measures, measures, dropped-stored}
use Rattle.mend.proofs.write_places.Goals.{Start}
use Rattle.mend.proofs.write_places.Goals as goal

known : (c : Start) →
    let a = c.args in
    Measures a.r.now a.h × (a.versions ≤ a.h.versions) × (a.pairs ≤ a.h.sources / 2)
known c =
    let a = c.args in
    let m = measures a.r.now a.h c.requires.r_value c.requires.h_value in
    (m, omega (arith, c.requires.versions_value, m.versions), omega (arith, c.requires.pairs_value, m.counted))

pub list_words-requires : goal.list_words-requires
list_words-requires c =
    let k = known (goal.at.list_words-requires c).Start in record {
      to_bound = omega arith;
      at_bound = omega (arith, c.versions_at.ensures, k.0.near);
      n_bound = omega (arith, k.0.sizes.versions);
    }

pub list_pairs-requires : goal.list_pairs-requires
list_pairs-requires c =
    let k = known (goal.at.list_pairs-requires c).Start in record {
      to_bound = omega (arith, k.0.sizes.versions);
      sources_bound = k.0.sizes.sources;
      h_bound = omega (arith, k.0.sources, k.0.near, k.0.sizes.versions);
    }

pub overflow_sub-whole : goal.overflow_sub-whole
overflow_sub-whole c = (known (goal.at.overflow_sub-whole c).Start).2

pub overflow_add-lost : goal.overflow_add-lost
overflow_add-lost c =
    let k = known (goal.at.overflow_add-lost c).Start in omega (arith, k.0.sizes.versions, k.0.sizes.sources)

pub overflow_add-table : goal.overflow_add-table
overflow_add-table c =
    let k = known (goal.at.overflow_add-table c).Start in
    omega (arith, k.0.sources, k.0.near, k.0.sizes.versions, k.0.sizes.sources, c.sources_at-table.ensures)

pub list_words-requires-2 : goal.list_words-requires-2
list_words-requires-2 c =
    let k = known (goal.at.list_words-requires-2 c).Start in record {
      to_bound = omega (arith, k.0.sizes.versions, k.0.sizes.sources);
      at_bound = omega (arith, k.0.sources, k.0.near, k.0.sizes.versions, k.0.sizes.sources, c.sources_at-table.ensures);
      n_bound = omega arith;
    }

pub returns : goal.returns
returns c =
    rw (
      c.list_words-2.ensures,
      c.list_pairs.ensures,
      c.list_words.ensures,
      c.versions_at.ensures,
      c.sources_at-table.ensures,
      c.requires.versions_value,
      c.requires.pairs_value,
      c.requires.h_value,
    ) (dropped-stored c.args.r.now c.requires.r_value c.args.places.now)
