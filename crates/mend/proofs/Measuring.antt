-- How long things are, of a record that the numbers 1 to 3 do not refuse: its parts, what is kept, the new record and the list.
-- By the tests of its sizes, and by the cases of its pairs.
use mathlib.Core.List.{List, ◌++◌}
use mathlib.Core.Path.{◌≡◌, refl}
use Prim.Native.Nat.{ℕ, ◌+◌, ◌*◌, ◌-◌, ◌/◌, ◌%◌, ◌≤◌, zero-le}
use native.Mathlib.Omega.{arith}
use lib.ListN.{length, take, drop, length-append, length-drop}
use lib.Seq.{sets, length-take-le}
use Rattle.words.proofs.Series.{series-length}
use Rattle.words.proofs.Sets.{sets_behind}
use Rattle.words.proofs.Tests.{either}
use Rattle.header.specs.declared.Header.{Header}
use Rattle.header.specs.Header.{header_of, code_at, constants_at, relocation_at, versions_at, sources_at, record_length}
use Rattle.version.specs.Version.{version_sound}
use Rattle.record.specs.Number.{size_number}
use Rattle.record.proofs.Sound.{Sizes, sized, sizes-small}
use Rattle.mend.specs.Mend.{versions_left, kept_pairs, dropped_pairs, word_places, dropped_words}
use Rattle.mend.specs.Mend.{word_bytes, pair_bytes, mended_record}
use Rattle.mend.proofs.Sifting.{sifted, pairs-counted, kept-bytes}

-- What the tests of the sizes say of a record and its header.
pub record Measures (r : List ℕ) (h : Header) : Type 0 where
  pub sizes : Sizes h
  pub front : 28 ≤ versions_at h
  pub near : versions_at h ≤ 30000
  pub sources : sources_at h ≡ versions_at h + 4 * h.versions
  pub whole : length r ≡ versions_at h + 4 * h.versions + 4 * h.sources
  pub versions : versions_left r h ≤ h.versions
  pub counted : 2 * length (kept_pairs r h) + length (dropped_pairs r h) ≡ 2 * (h.sources / 2)
  pub bytes : length (pair_bytes r (kept_pairs r h)) ≡ 8 * length (kept_pairs r h)

pub measures : (r : List ℕ) (h : Header) → size_number r ≡ 0 → h ≡ header_of r → Measures r h
unfolding code_at constants_at relocation_at versions_at sources_at record_length kept_pairs dropped_pairs
measures r h e same =
    let s = sized r e in
    let sizes : Sizes h = rw same (sizes-small (header_of r) s.sizes) in
    let whole : length r ≡ record_length h = rw same s.whole in
    record {
      sizes = sizes;
      front = omega arith;
      near = omega (arith, sizes.imports, sizes.code, sizes.constants, sizes.relocation);
      sources = refl;
      whole = whole;
      versions = either (λ (n : ℕ). n ≤ h.versions) (version_sound r h) h.versions 0 (omega arith) zero-le;
      counted = pairs-counted (sifted r h 0 (sources_at h) (h.sources / 2));
      bytes = kept-bytes (sifted r h 0 (sources_at h) (h.sources / 2)) (omega arith);
    }

-- The words that are left of the version table, the pairs that are kept, and their bytes.
abbrev pub left : List ℕ → ℕ
left r = versions_left r (header_of r)

abbrev pub kept : List ℕ → List ℕ
kept r = kept_pairs r (header_of r)

abbrev pub pairs : List ℕ → List ℕ
pairs r = pair_bytes r (kept r)

-- All parts up to the version table and what is left of that: how long they are behind the header, and their bytes.
abbrev pub size : List ℕ → ℕ
size r = versions_at (header_of r) + 4 * left r - 28

abbrev pub body : List ℕ → List ℕ
body r = take (size r) (drop 28 r)

-- How many words of the version table are lost, and the place of the odd word of the source table.
abbrev pub lost : List ℕ → ℕ
lost r = (header_of r).versions - left r

abbrev pub odd : List ℕ → List ℕ
odd r = word_places (sources_at (header_of r) + 8 * ((header_of r).sources / 2)) ((header_of r).sources % 2)

module _ (r : List ℕ) (none : size_number r ≡ 0) where
  pub m : Measures r (header_of r)
  m = measures r (header_of r) none refl

  pub header-length : length (take 20 r) ≡ 20
  header-length = length-take-le 20 r (omega (arith, m.whole, m.front))

  pub body-length : length (body r) ≡ size r
  body-length = length-take-le (size r) (drop 28 r) (simp length-drop (omega (arith, m.whole, m.front, m.versions)))

  pub mended-length : length (mended_record r) ≡ versions_at (header_of r) + 4 * left r + 8 * length (kept r)
  unfolding mended_record
  mended-length =
      rw (
        length-append (take 20 r) _,
        length-append (body r) (pairs r),
        header-length,
        body-length,
        m.bytes,
      ) (omega (arith, m.front))

  -- The pieces stored one behind the other.
  pub mended-stored : (out : List ℕ) →
      sets (sets (sets (sets (sets out 0 (take 20 r)) 20 (word_bytes (left r))) 24 (word_bytes (2 * length (kept r)))) 28 (body r))
      (versions_at (header_of r) + 4 * left r) (pairs r)
      ≡ sets out 0 (mended_record r)
  unfolding mended_record
  mended-stored out =
      let one = sets out 0 (take 20 r) in
      let two = sets one 20 (word_bytes (left r)) in
      let sources = word_bytes (2 * length (kept r)) in
      let three = sets two 24 sources in
      let end = versions_at (header_of r) + 4 * left r in
      rw (
        sets_behind three 28 end (body r) (pairs r) (omega (arith, body-length, m.front)),
        sets_behind two 24 28 sources (body r ++ pairs r) refl,
        sets_behind one 20 24 (word_bytes (left r)) (sources ++ (body r ++ pairs r)) refl,
      ) (sets_behind out 0 20 (take 20 r) _ (omega (arith, header-length)))

  pub dropped-length : length (dropped_words r) ≡ lost r + ((header_of r).sources - 2 * length (kept r))
  unfolding dropped_words
  dropped-length =
      rw (
        length-append (word_places (versions_at (header_of r)) (lost r)) _,
        length-append (dropped_pairs r (header_of r)) (odd r),
        series-length (λ (i : ℕ). i) 4 (versions_at (header_of r)) (lost r),
        series-length (λ (i : ℕ). i) 4 (sources_at (header_of r) + 8 * ((header_of r).sources / 2)) ((header_of r).sources % 2),
      ) (omega (arith, m.counted))

  pub dropped-stored : (places : List ℕ) →
      sets (sets (sets places 0 (word_places (versions_at (header_of r)) (lost r))) (lost r) (dropped_pairs r (header_of r)))
      (lost r + 2 * ((header_of r).sources / 2 - length (kept r))) (odd r)
      ≡ sets places 0 (dropped_words r)
  unfolding dropped_words
  dropped-stored places =
      let first = word_places (versions_at (header_of r)) (lost r) in
      let words = series-length (λ (i : ℕ). i) 4 (versions_at (header_of r)) (lost r) in
      rw
      (sets_behind (sets places 0 first) (lost r) (lost r + 2 * ((header_of r).sources / 2 - length (kept r)))
      (dropped_pairs r (header_of r)) (odd r) (omega (arith, m.counted)))
      (sets_behind places 0 (lost r) first (dropped_pairs r (header_of r) ++ odd r) (omega (arith, words)))
