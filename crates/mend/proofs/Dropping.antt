-- The dropped places rise, and what is left without them is what the new record has: words before a place and behind it do not
-- count for it, so the tables are gone through word by word.
use mathlib.Core.Bool.{Bool, true, false}
use mathlib.Core.List.{List, [], ◌∷◌, ◌++◌, append-nil, append_assoc}
use mathlib.Core.Path.{◌≡◌, ◌∙◌, refl, sym}
use Prim.Native.Nat.{ℕ, zero, suc, ◌+◌, ◌*◌, ◌/◌, ◌%◌, ◌≤◌, ◌<◌}
use native.Mathlib.Omega.{arith}
use native.Mathlib.Nat.{sub_self, sub-zero, zero-add, add-zero, suc-add}
use lib.ListN.{length, take, drop}
use lib.Seq.{take-add, drop-drop}
use borrow.Author.Tests.{eq-eqb, ne_eqb}
use Rattle.words.proofs.Order.{Rises, rising-holds, rises-wider, rises-append}
use Rattle.header.specs.declared.Header.{Header}
use Rattle.header.specs.Header.{header_of, versions_at, sources_at}
use Rattle.version.specs.Version.{version_sound}
use Rattle.record.specs.Number.{size_number}
use Rattle.mend.specs.Mend.{kept_pairs, dropped_pairs, word_places, dropped_words, pair_bytes}
use Rattle.mend.specs.Mended.{PlacesRise, Shortens, is_listed, left_from, DropsJustThese}
use Rattle.mend.proofs.Sifting.{Sifted, over, keep, lose, sifted}
use Rattle.mend.proofs.Measuring.{left, pairs, lost, odd, m, mended-length, dropped-length}
use Rattle.mend.proofs.Pieces.{from-versions}

-- Words in a row rise, and so do the words of the pairs that are dropped.
words-rise : (at n : ℕ) → Rises (at + 4 * n) at (word_places at n)
words-rise at zero = tt
words-rise at (suc n) =
    let limit = at + 4 * suc n in
    let rest = words-rise (at + 4) n in (
      omega arith,
      omega arith,
      rises-wider (at + 4 + 4 * n) limit (at + 4) (at + 1) (word_places (at + 4) n) (omega arith) (omega arith) rest,
    )

pairs-rise : {r : List ℕ} {h : Header} {least at n : ℕ} {kept dropped : List ℕ} → Sifted r h least at n kept dropped
    → Rises (at + 8 * n) at dropped
pairs-rise over = tt
pairs-rise {at = at} (keep {n = n} {dropped = dropped} from below s) =
    rises-wider (at + 8 + 8 * n) (at + 8 * suc n) (at + 8) at dropped (omega arith) (omega arith) (pairs-rise s)
pairs-rise {at = at} (lose {n = n} {dropped = dropped} e s) =
    let limit = at + 8 * suc n in
    let rest = rises-wider (at + 8 + 8 * n) limit (at + 8) (at + 4 + 1) dropped (omega arith) (omega arith) (pairs-rise s) in
    (omega arith, omega arith, (omega arith, omega arith, rest))

module _ (r : List ℕ) (none : size_number r ≡ 0) where
  odd-rises : let h = header_of r in Rises (length r) (sources_at h + 8 * (h.sources / 2)) (odd r)
  odd-rises =
      let h = header_of r in
      let place = sources_at h + 8 * (h.sources / 2) in
      let k = h.sources % 2 in
      let end : place + 4 * k ≤ length r = omega (arith, (m r none).whole, (m r none).sources) in
      rises-wider (place + 4 * k) (length r) place place (odd r) end (omega arith) (words-rise place k)

  -- The places in the source table: of pairs, and of the odd word.
  table-rises : Rises (length r) (sources_at (header_of r)) (dropped_pairs r (header_of r) ++ odd r)
  unfolding dropped_pairs
  table-rises =
      let h = header_of r in
      let at = sources_at h in
      let n = h.sources / 2 in
      let small = m r none in
      let place = at + 8 * n in
      let end : place ≤ length r = omega (arith, small.whole, small.sources) in
      rises-append (length r) place at (dropped_pairs r h) (odd r) (omega arith) end (pairs-rise (sifted r h 0 at n)) odd-rises

  rise : Rises (length r) (versions_at (header_of r)) (dropped_words r)
  unfolding dropped_words
  rise =
      let h = header_of r in
      let at = versions_at h in
      let small = m r none in
      let first = word_places at (lost r) in
      let end : sources_at h ≤ length r = omega (arith, small.whole, small.sources) in
      rises-append (length r) (sources_at h) at first (dropped_pairs r h ++ odd r) (omega (arith, small.sources)) end
      (rises-wider (at + 4 * lost r) (sources_at h) at at first (omega (arith, small.sources)) (omega arith)
      (words-rise at (lost r)))
      table-rises

pub places-rise : PlacesRise
places-rise r none = rising-holds (length r) (versions_at (header_of r)) (dropped_words r) (rise r none)

pub shortens : Shortens
shortens r none =
    let small = m r none in
    omega (arith, mended-length r none, dropped-length r none, small.whole, small.versions, small.counted)

-- Places before a place, and places behind it, are not that place.
listed-behind : (limit least at : ℕ) (xs : List ℕ) → at < least → Rises limit least xs → is_listed at xs ≡ false
listed-behind limit least at [] l s = refl
listed-behind limit least at (x ∷ xs) l s =
    rw (ne_eqb at x (λ e. omega (arith, s.0))) (listed-behind limit (x + 1) at xs (omega (arith, s.0)) s.2)

listed-before : (least at : ℕ) (xs ys : List ℕ) → Rises at least xs → is_listed at (xs ++ ys) ≡ is_listed at ys
listed-before least at [] ys s = refl
listed-before least at (x ∷ xs) ys s = rw (ne_eqb at x (λ e. omega (arith, s.1))) (listed-before (x + 1) at xs ys s.2)

module _ (r : List ℕ) where
  -- Places before those that are looked at count for nothing.
  forgotten : (least at n : ℕ) (xs ys : List ℕ) → Rises at least xs → left_from r (xs ++ ys) at n ≡ left_from r ys at n
  forgotten least at zero xs ys s = refl
  forgotten least at (suc n) xs ys s =
      let next = rises-wider at (at + 4) least least xs (omega arith) (omega arith) s in
      rw (listed-before least at xs ys s, forgotten least (at + 4) n xs ys next)

  -- Words that are all dropped, and words of which none is.
  words-lost : (at n m : ℕ) (ys : List ℕ) → left_from r (word_places at n ++ ys) at (n + m) ≡ left_from r ys (at + 4 * n) m
  words-lost at zero m ys = rw (zero-add m, add-zero at)
  words-lost at (suc n) m ys =
      let place : at + 4 + 4 * n ≡ at + 4 * suc n = omega arith in
      let rest = word_places (at + 4) n ++ ys in
      rw (suc-add n m, eq-eqb at at refl, ← place)
      (forgotten at (at + 4) (n + m) (at ∷ []) rest (omega arith, omega arith, tt) ∙ words-lost (at + 4) n m ys)

  words_left : (limit at n m : ℕ) (ys : List ℕ) → Rises limit (at + 4 * n) ys
      → left_from r ys at (n + m) ≡ take (4 * n) (drop at r) ++ left_from r ys (at + 4 * n) m
  words_left limit at zero m ys s = rw (zero-add m, add-zero at)
  words_left limit at (suc n) m ys s =
      let place : at + 4 * suc n ≡ at + 4 + 4 * n = omega arith in
      let size : 4 * suc n ≡ 4 + 4 * n = omega arith in
      rw (
        suc-add n m,
        listed-behind limit (at + 4 * suc n) at ys (omega arith) s,
        words_left limit (at + 4) n m ys (rw place at s),
        place,
        size,
        take-add 4 (4 * n) (drop at r),
        drop-drop 4 at r,
      ) (sym (append_assoc (take 4 (drop at r)) (take (4 * n) (drop (at + 4) r)) _))

  pairs-left : {h : Header} {least at n : ℕ} {kept dropped : List ℕ} → Sifted r h least at n kept dropped
      → (limit m : ℕ) (ys : List ℕ) → at + 8 * n ≤ limit → Rises limit (at + 8 * n) ys
      → left_from r (dropped ++ ys) at (2 * n + m) ≡ pair_bytes r kept ++ left_from r ys (at + 8 * n) m
  pairs-left {at = at} over limit m ys l s = rw (zero-add m, add-zero at)
  pairs-left {at = at} (keep {n = n} {kept = kept} {dropped = dropped} from below more) limit m ys l s =
      let place : at + 8 * suc n ≡ at + 8 + 8 * n = omega arith in
      let count : 2 * suc n + m ≡ 2 + (2 * n + m) = omega arith in
      let behind : Rises limit (at + 8 + 8 * n) ys = rw place at s in
      let all = rises-append limit (at + 8 + 8 * n) (at + 8) dropped ys (omega arith) (omega arith) (pairs-rise more) behind in
      rw (count, words_left limit at 2 (2 * n + m) (dropped ++ ys) all, pairs-left more limit m ys (omega arith) behind, place)
      (sym (append_assoc (take 8 (drop at r)) (pair_bytes r kept) _))
  pairs-left {at = at} (lose {n = n} {dropped = dropped} f more) limit m ys l s =
      let place : at + 8 * suc n ≡ at + 8 + 8 * n = omega arith in
      let count : 2 * suc n + m ≡ 2 + (2 * n + m) = omega arith in
      rw (count, place) (words-lost at 2 (2 * n + m) (dropped ++ ys) ∙ pairs-left more limit m ys (omega arith) (rw place at s))

module _ (r : List ℕ) (none : size_number r ≡ 0) where
  -- Of the version table all words are left, or none.
  versions-left : (b : Bool) → version_sound r (header_of r) ≡ b → (k : ℕ) (ys : List ℕ)
      → Rises (length r) (sources_at (header_of r)) ys
      → left_from r (word_places (versions_at (header_of r)) (lost r) ++ ys) (versions_at (header_of r)) ((header_of r).versions + k)
      ≡ take (4 * left r) (drop (versions_at (header_of r)) r) ++ left_from r ys (sources_at (header_of r)) k
  versions-left true e k ys s =
      let h = header_of r in
      let place = (m r none).sources in
      rw (e, sub_self h.versions, place) (words_left r (length r) (versions_at h) h.versions k ys (rw place at s))
  versions-left false e k ys s =
      let h = header_of r in
      rw (e, sub-zero h.versions, (m r none).sources) (words-lost r (versions_at h) h.versions k ys)

  sources-left : let h = header_of r in left_from r (dropped_pairs r h ++ odd r) (sources_at h) h.sources ≡ pairs r
  unfolding kept_pairs dropped_pairs
  sources-left =
      let h = header_of r in
      let n = h.sources / 2 in
      let k = h.sources % 2 in
      let at = sources_at h + 8 * n in
      let end : at ≤ length r = omega (arith, (m r none).whole, (m r none).sources) in
      let count : 2 * n + k ≡ h.sources = omega arith in
      let nothing : left_from r (odd r) at k ≡ [] = rw (append-nil, add-zero k) at (words-lost r at k 0 []) in
      rw (count, nothing, append-nil) at
      (pairs-left r (sifted r h 0 (sources_at h) n) (length r) k (odd r) end (odd-rises r none))

pub drops-just-these : DropsJustThese
unfolding dropped_words
drops-just-these r none =
    let h = header_of r in
    rw (
      from-versions r none,
      versions-left r none (version_sound r h) refl h.sources (dropped_pairs r h ++ odd r) (table-rises r none),
      sources-left r none,
    )
