-- What stays: the other parts of every record; a version table that is not malformed, and a source table that is sound, since
-- each of its pairs is kept; and all of a sound record, since each of its pieces is the old one.
use mathlib.Core.Bool.{true, and-eq-true_iff}
use mathlib.Core.List.{List, [], ◌++◌}
use mathlib.Core.Path.{◌≡◌, ◌∙◌, refl, sym, ap}
use Prim.Native.Nat.{ℕ, suc, ◌+◌, ◌*◌, ◌-◌, ◌/◌, ◌%◌, ◌≤◌}
use native.Mathlib.Omega.{arith}
use native.Mathlib.Nat.{sub_self}
use lib.Dec.{eqb}
use lib.ListN.{length, take, drop, take-append-drop, length-drop}
use lib.Seq.{take_all, take-take, take-add, drop-drop}
use borrow.Author.Tests.{eqb-true, le-leb, lt-ltb}
use Rattle.words.specs.Bytes.{byte_at, Bytes, halfword_at, word_at}
use Rattle.words.specs.Order.{rising_from, rising}
use Rattle.words.proofs.Bytes.{four_bytes}
use Rattle.words.proofs.Slices.{part_join}
use Rattle.words.proofs.Order.{rising-first}
use Rattle.header.specs.declared.Header.{Header}
use Rattle.header.specs.Header.{header_of, versions_at, sources_at}
use Rattle.version.specs.Version.{version_sound}
use Rattle.source.specs.Source.{offsets_from, source_offsets, source_sound}
use Rattle.record.specs.Number.{size_number}
use Rattle.mend.specs.Mend.{keeps, kept_pairs, dropped_pairs, dropped_words, word_bytes, pair_bytes, mended_record}
use Rattle.mend.specs.Mended.{KeepsParts, KeepsSound}
use Rattle.mend.proofs.Sifting.{Sifted, over, keep, lose, sifted}
use Rattle.mend.proofs.Measuring.{Measures, left, kept, pairs, size, body, m}
use Rattle.mend.proofs.Pieces.{same-front, same_parts, from-pairs, header-mended, sources-place}

-- The bytes of a word.
word-as-bytes : (r : List ℕ) (i : ℕ) → Bytes r → i + 4 ≤ length r → word_bytes (word_at r i) ≡ take 4 (drop i r)
unfolding word_at halfword_at
word-as-bytes r i b l =
    let a = byte_at r i in
    let c = byte_at r (i + 1) in
    let d = byte_at r (i + 2) in
    let e = byte_at r (i + 2 + 1) in
    let w = (a * 256 + c) * 65536 + (d * 256 + e) in
    let place : i + 2 + 1 ≡ i + 3 = omega arith in
    let first : w / 16777216 ≡ a = omega (arith, b i, b (i + 1), b (i + 2), b (i + 2 + 1)) in
    let second : w / 65536 % 256 ≡ c = omega (arith, b i, b (i + 1), b (i + 2), b (i + 2 + 1)) in
    let third : w / 256 % 256 ≡ d = omega (arith, b i, b (i + 1), b (i + 2), b (i + 2 + 1)) in
    let last : w % 256 ≡ e = omega (arith, b i, b (i + 1), b (i + 2), b (i + 2 + 1)) in
    rw (first, second, third, last, place) (sym (four_bytes r i l))

-- In a sound table every pair is kept.
record AllKept (r : List ℕ) (at n : ℕ) (kept dropped : List ℕ) : Type 0 where
  none : dropped ≡ []
  all : length kept ≡ n
  bytes : pair_bytes r kept ≡ take (8 * n) (drop at r)

all-kept : {r : List ℕ} {h : Header} {least at n : ℕ} {kept dropped : List ℕ} → Sifted r h least at n kept dropped
    → rising_from h.code least (offsets_from r at n) ≡ true → AllKept r at n kept dropped
all-kept over e = record { none = refl; all = refl; bytes = refl }
all-kept {r} {h} {least} {at} (keep {n = n} from below s) e =
    let rest = rising_from h.code (word_at r at + 1) (offsets_from r (at + 8) n) in
    let a = all-kept s (rising-first h.code least (word_at r at) rest e).2 in
    let longer : 8 * suc n ≡ 8 + 8 * n = omega arith in
    record {
      none = a.none;
      all = ap suc a.all;
      bytes = rw (a.bytes, longer, ← drop-drop 8 at r) (sym (take-add 8 (8 * n) (drop at r)));
    }
all-kept {r} {h} {least} {at} (lose {n = n} f s) e =
    let x = word_at r at in
    let rest = rising_from h.code (x + 1) (offsets_from r (at + 8) n) in
    let k = rising-first h.code least x rest e in
    let t : keeps h least x ≡ true = rw (le-leb least x k.0, lt-ltb x h.code k.1) in
    let z : ◌≡◌ {A = ℕ} 0 1 = cc in
    absurd (omega arith)

same-pieces : (a : List ℕ) {b c d b' c' d' : List ℕ} → b ≡ b' → c ≡ c' → d ≡ d' → a ++ (b ++ (c ++ d)) ≡ a ++ (b' ++ (c' ++ d'))
same-pieces a e f g = rw (e, f, g)

module _ (r : List ℕ) (none : size_number r ≡ 0) where
  small : Measures r (header_of r)
  small = m r none

  -- A version table that is not malformed keeps its words.
  module _ (sound : version_sound r (header_of r) ≡ true) where
    all_left : left r ≡ (header_of r).versions
    all_left = rw sound

    body-place : 28 + size r ≡ sources_at (header_of r)
    body-place = omega (arith, small.sources, small.front, all_left)

    same_versions : Bytes r → word_bytes (left r) ≡ take 4 (drop 20 r)
    unfolding header_of
    same_versions bytes = rw all_left (word-as-bytes r 20 bytes (omega (arith, small.whole, small.front)))

  -- A source table that is sound keeps its pairs.
  module _ (sound : source_sound r (header_of r) ≡ true) where
    table : let h = header_of r in (eqb (h.sources % 2) 0 ≡ true) × (rising h.code (source_offsets r h) ≡ true)
    unfolding source_sound
    table =
        let h = header_of r in
        (and-eq-true_iff (eqb (h.sources % 2) 0) (rising h.code (source_offsets r h))).0 sound

    even : (header_of r).sources % 2 ≡ 0
    even = eqb-true ((header_of r).sources % 2) 0 table.0

    all : AllKept r (sources_at (header_of r)) ((header_of r).sources / 2) (kept r) (dropped_pairs r (header_of r))
    unfolding source_offsets kept_pairs dropped_pairs
    all =
        let h = header_of r in
        all-kept (sifted r h 0 (sources_at h) (h.sources / 2)) table.1

    all-counted : 2 * length (kept r) ≡ (header_of r).sources
    all-counted = omega (arith, all.all, even)

    same-sources : Bytes r → word_bytes (2 * length (kept r)) ≡ take 4 (drop 24 r)
    unfolding header_of
    same-sources bytes = rw all-counted (word-as-bytes r 24 bytes (omega (arith, small.whole, small.front)))

    same-pairs : pairs r ≡ drop (sources_at (header_of r)) r
    same-pairs =
        let at = sources_at (header_of r) in
        let end : length r - at ≤ 8 * ((header_of r).sources / 2) = omega (arith, small.whole, small.sources, even) in
        all.bytes ∙ take_all (8 * ((header_of r).sources / 2)) (drop at r) (simp length-drop end)

  parts-kept : let k = versions_at (header_of r) - 28 in take k (drop 28 (mended_record r)) ≡ take k (drop 28 r)
  parts-kept =
      let k = versions_at (header_of r) - 28 in
      let within : k ≤ size r = omega arith in
      sym (take-take k (size r) (drop 28 (mended_record r)) within)
      ∙ (ap (λ (l : List ℕ). take k l) (same_parts r none) ∙ take-take k (size r) (drop 28 r) within)

  version-kept : version_sound r (header_of r) ≡ true →
      let k = sources_at (header_of r) - 28 in
      ((header_of (mended_record r)).versions ≡ (header_of r).versions) × (take k (drop 28 (mended_record r)) ≡ take k (drop 28 r))
  version-kept sound =
      let k : sources_at (header_of r) - 28 ≡ size r = omega (arith, body-place sound) in
      (rw (header-mended r none) (all_left sound), rw k (same_parts r none))

  source-kept : source_sound r (header_of r) ≡ true →
      ((header_of (mended_record r)).sources ≡ (header_of r).sources)
      × (drop (sources_at (header_of (mended_record r))) (mended_record r) ≡ drop (sources_at (header_of r)) r)
  source-kept sound = (
    rw (header-mended r none) (all-counted sound),
    rw (header-mended r none, sources-place r none) (from-pairs r none ∙ same-pairs sound),
  )

pub keeps-parts : KeepsParts
keeps-parts r none = record {
  sizes = same-front r none;
  parts = parts-kept r none;
  version = version-kept r none;
  source = source-kept r none;
}

module _
    (r : List ℕ) (none : size_number r ≡ 0) (v : version_sound r (header_of r) ≡ true) (s : source_sound r (header_of r) ≡ true) where
  nothing-dropped : dropped_words r ≡ []
  unfolding dropped_words
  nothing-dropped = rw (all_left r none v, sub_self (header_of r).versions, (all r none s).none, even r none s)

  -- The pieces of the new record are those of the old one.
  same_body : body r ++ pairs r ≡ drop 28 r
  same_body = rw (same-pairs r none s, ← body-place r none v) (part_join r 28 (size r))

  same-record : Bytes r → mended_record r ≡ r
  unfolding mended_record
  same-record bytes =
      same-pieces (take 20 r) (same_versions r none v bytes) (same-sources r none s bytes) same_body
      ∙ rw (part_join r 24 4, part_join r 20 4) (take-append-drop 20 r)

pub keeps-sound : KeepsSound
keeps-sound r bytes none v s = (same-record r none v s bytes, nothing-dropped r none v s)
