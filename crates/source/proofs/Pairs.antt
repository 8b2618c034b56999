-- The k-th pair as it is read, and its first word and the end of its line among the source offsets: pairs stand in a row, 8 bytes
-- each.
use Prim.Native.Nat.{ℕ, zero, suc, ◌+◌, ◌*◌, ◌-◌, ◌/◌, ◌≤◌, ◌<◌}
use mathlib.Core.Path.{◌≡◌, ◌∙◌, refl, sym}
use mathlib.Core.List.{List, ◌∷◌}
use native.Mathlib.Omega.{arith}
use lib.Dec.{ltb}
use lib.ListN.{length, get_or, get_or-eq_default}
use lib.Seq.{drop-cons}
use borrow.Author.Tests.{ltb-true, ltb-false}
use Rattle.words.specs.Bytes.{word_at}
use Rattle.words.proofs.Series.{series-at, series-length}
use Rattle.words.proofs.Tests.{by-test}
use Rattle.cursor.specs.Cursor.{pair_at}
use Rattle.header.specs.declared.Header.{Header}
use Rattle.header.specs.Header.{sources_at}
use Rattle.source.specs.Source.{source_offsets, pair_of}
use Rattle.source.specs.Span.{end_of}

-- A place of a list has the same number, whatever stands for none.
any-default : (xs : List ℕ) (k d e : ℕ) → k < length xs → get_or xs k d ≡ get_or xs k e
any-default xs k d e h = cc (drop-cons xs k d h, drop-cons xs k e h)

module _ (r : List ℕ) (h : Header) where
  pub pair-counted : (k : ℕ) → (k ≡ 0 → ⊥) → pair_at r (sources_at h + 8 * (k - 1)) ≡ pair_of r h k
  pair-counted zero some = absurd (some refl)
  pair-counted (suc k) some = let e : suc k - 1 ≡ k = omega arith in rw e

  pub pairs-length : length (source_offsets r h) ≡ h.sources / 2
  unfolding source_offsets
  pairs-length = series-length (word_at r) 8 (sources_at h) (h.sources / 2)

  next-first : (k : ℕ) → k < h.sources / 2 → (pair_of r h (suc k)).first ≡ get_or (source_offsets r h) k 0
  unfolding source_offsets pair_at
  next-first k n = sym (series-at (word_at r) 8 (sources_at h) (h.sources / 2) k n)

  pub pair-first : (k : ℕ) → k ≤ h.sources / 2 → (pair_of r h k).first ≡ get_or (0 ∷ source_offsets r h) k 0
  pair-first zero n = refl
  pair-first (suc k) n = next-first k (omega arith)

  pub pair_end : (k : ℕ) → end_of r h k ≡ get_or (source_offsets r h) k h.code
  pair_end k =
      let offsets = source_offsets r h in
      let n = h.sources / 2 in
      by-test (λ (x : ℕ). x ≡ get_or offsets k h.code) (ltb k n) (pair_of r h (suc k)).first h.code
      (λ t. next-first k (ltb-true k n t) ∙ any-default offsets k 0 h.code (omega (arith, pairs-length, ltb-true k n t)))
      (λ f. sym (get_or-eq_default offsets h.code (omega (arith, pairs-length, ltb-false k n f))))
