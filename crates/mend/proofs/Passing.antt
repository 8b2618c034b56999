-- Going over the pairs of a source table from the front: what the pairs passed gave, and what is left gives the rest. By one
-- turn of the definitions for each pair.
use Prim.Native.Nat.{ℕ, ◌+◌, ◌*◌, ◌/◌}
use native.Mathlib.Numerals.{add-one}
use mathlib.Core.Bool.{Bool, true, false}
use mathlib.Core.Path.{◌≡◌, ◌∙◌, sym}
use mathlib.Core.List.{List, [], ◌∷◌, ◌++◌, append_assoc}
use native.Mathlib.Omega.{arith}
use lib.ListN.{length, length-append}
use Rattle.header.specs.declared.Header.{Header}
use Rattle.header.specs.Header.{sources_at}
use Rattle.words.specs.Bytes.{word_at}
use Rattle.mend.specs.Mend.{keeps, least_after, kept_from, dropped_from, kept_pairs, dropped_pairs}
use Rattle.mend.specs.declared.Pairs.{Pairs}

-- A pair is taken: its place, whether it is kept, and what is left behind it.
abbrev pub Taken : (r : List ℕ) (h : Header) (p q : Pairs) (at : ℕ) (kept : Bool) → Type 0
Taken r h p q at kept =
    (at ≡ p.at)
    × (kept ≡ keeps h p.least (word_at r p.at))
    × (q.at ≡ p.at + 8)
    × (p.left ≡ q.left + 1)
    × (q.least ≡ least_after h p.least (word_at r p.at))

-- Some pairs are passed: the places of those that were kept, and of both words of the others, and what a loop has made of them.
pub record Passed (P : List ℕ → List ℕ → Type 0) (r : List ℕ) (h : Header) (p : Pairs) : Type 0 where
  pub kept : List ℕ
  pub dropped : List ℕ
  pub place : p.at + 8 * p.left ≡ sources_at h + 8 * (h.sources / 2)
  pub keeping : kept_pairs r h ≡ kept ++ kept_from r h p.least p.at p.left
  pub dropping : dropped_pairs r h ≡ dropped ++ dropped_from r h p.least p.at p.left
  pub counted : 2 * length kept + length dropped + 2 * p.left ≡ 2 * (h.sources / 2)
  pub done : P kept dropped

module _ {P : List ℕ → List ℕ → Type 0} {r : List ℕ} {h : Header} {p : Pairs} where
  pub passed_start : p.at ≡ sources_at h → p.left ≡ h.sources / 2 → p.least ≡ 0 → P [] [] → Passed P r h p
  unfolding kept_pairs dropped_pairs
  passed_start a l m d = record {
    kept = [];
    dropped = [];
    place = omega arith;
    keeping = rw (a, l, m);
    dropping = rw (a, l, m);
    counted = omega arith;
    done = d;
  }

  module _ {Q : List ℕ → List ℕ → Type 0} {q : Pairs} {at : ℕ} {b : Bool} (s : Passed P r h p) (t : Taken r h p q at b) where
    -- A pair that is kept, and one that is dropped.
    pub passed-kept : b ≡ true → ((kept dropped : List ℕ) → P kept dropped → Q (kept ++ (at ∷ [])) dropped) → Passed Q r h q
    passed-kept k f = record {
      kept = s.kept ++ (at ∷ []);
      dropped = s.dropped;
      place = omega (arith, s.place, t.2, t.3);
      keeping =
          s.keeping
          ∙ rw (t.3, add-one q.left, ← t.1, k, t.4, ← t.1, k, t.2, t.0) (sym (append_assoc s.kept (p.at ∷ []) _));
      dropping = s.dropping ∙ rw (t.3, add-one q.left, ← t.1, k, t.4, ← t.1, k, t.2);
      counted = omega (arith, s.counted, t.3, length-append s.kept (at ∷ []));
      done = f s.kept s.dropped s.done;
    }

    pub passed-dropped : b ≡ false → ((kept dropped : List ℕ) → P kept dropped → Q kept (dropped ++ (at ∷ (at + 4) ∷ [])))
        → Passed Q r h q
    passed-dropped k f = record {
      kept = s.kept;
      dropped = s.dropped ++ (at ∷ (at + 4) ∷ []);
      place = omega (arith, s.place, t.2, t.3);
      keeping = s.keeping ∙ rw (t.3, add-one q.left, ← t.1, k, t.4, ← t.1, k, t.2);
      dropping =
          s.dropping
          ∙ rw (t.3, add-one q.left, ← t.1, k, t.4, ← t.1, k, t.2, t.0)
          (sym (append_assoc s.dropped (p.at ∷ (p.at + 4) ∷ []) _));
      counted = omega (arith, s.counted, t.3, length-append s.dropped (at ∷ (at + 4) ∷ []));
      done = f s.kept s.dropped s.done;
    }
