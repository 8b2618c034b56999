-- What comes out is sound: its sizes are those of its header, its version word is the old one or gone, and the pairs that are
-- kept rise. So mending it again changes nothing.
use mathlib.Core.Bool.{Bool, true, false, ◌||◌}
use mathlib.Core.List.{List}
use mathlib.Core.Path.{◌≡◌, ◌∙◌, refl, sym}
use Prim.Native.Nat.{ℕ, zero, suc, ◌+◌, ◌*◌, ◌-◌, ◌/◌, ◌%◌, ◌≤◌, ◌<◌}
use native.Mathlib.Omega.{arith}
use lib.Dec.{eqb}
use lib.ListN.{length, take, drop}
use lib.Seq.{take_at, drop_at, drop-drop}
use borrow.Author.Tests.{ne_eqb, le-leb, lt-ltb}
use Rattle.words.specs.Bytes.{byte_at, word_at}
use Rattle.words.specs.Order.{rising_from}
use Rattle.words.proofs.Bytes.{byte-shared, word-shared}
use Rattle.header.specs.declared.Header.{Header}
use Rattle.header.specs.Header.{header_of, code_at, constants_at, relocation_at, versions_at, sources_at, record_length}
use Rattle.version.specs.Version.{issue_at, version_sound}
use Rattle.source.specs.Source.{offsets_from, source_offsets, source_sound}
use Rattle.record.specs.Number.{size_number}
use Rattle.record.proofs.Sound.{size-cleared, small-sizes}
use Rattle.mend.specs.Mend.{kept_pairs, pair_bytes, mended_record}
use Rattle.mend.specs.Mended.{Mends, MendsOnce}
use Rattle.mend.proofs.Sifting.{Sifted, over, keep, lose, sifted, eight-bytes}
use Rattle.mend.proofs.Measuring.{left, kept, size, m, mended-length}
use Rattle.mend.proofs.Pieces.{new_header, same_parts, from-pairs, header-mended, mended-bytes}
use Rattle.mend.proofs.Pieces.{versions-place, sources-place}
use Rattle.mend.proofs.Keeping.{keeps-sound}

-- Where the pairs that are kept stand one behind the other, their offsets rise.
kept-rise : {r : List ℕ} {h : Header} {least at n : ℕ} {kept dropped : List ℕ} → Sifted r h least at n kept dropped
    → at + 8 * n ≤ length r → (s : List ℕ) (to : ℕ) → drop to s ≡ pair_bytes r kept
    → rising_from h.code least (offsets_from s to (length kept)) ≡ true
kept-rise over l s to e = refl
kept-rise {r} {h} {least} {at} (keep {n = n} {kept = kept} from below more) l s to e =
    let pair = take 8 (drop at r) in
    let eight = eight-bytes r at (omega arith) in
    let front : take 8 (drop to s) ≡ pair = rw e (take_at pair (pair_bytes r kept) 8 eight) in
    let rest : drop (to + 8) s ≡ pair_bytes r kept = rw (← drop-drop 8 to s, e) (drop_at pair (pair_bytes r kept) 8 eight) in
    let one : to + 0 ≡ to = omega arith in
    let other : at + 0 ≡ at = omega arith in
    let same : word_at s to ≡ word_at r at = rw (one, other) at (word-shared s r to at 8 0 front (omega arith)) in
    rw (same, le-leb least (word_at r at) from, lt-ltb (word_at r at) h.code below)
    (kept-rise more (omega arith) s (to + 8) rest)
kept-rise (lose f more) l s to e = kept-rise more (omega arith) s to e

-- The same four bytes name the same issue.
same-issue : (s t : List ℕ) (i : ℕ) → ((k : ℕ) → k < 4 → byte_at s (i + k) ≡ byte_at t (i + k)) → issue_at s i ≡ issue_at t i
unfolding issue_at
same-issue s t i same =
    let one : i + 0 ≡ i = omega arith in
    let first : byte_at s i ≡ byte_at t i = rw one at (same 0 (omega arith)) in
    rw (first, same 1 (omega arith), same 2 (omega arith), same 3 (omega arith))

-- Without a version table the version is sound whatever stands there.
sound-alike : (n : ℕ) {b c : Bool} → (eqb n 0 || b) ≡ true → (1 ≤ n → c ≡ b) → (eqb n 0 || c) ≡ true
sound-alike zero e f = refl
sound-alike (suc n) {b} {c} e f =
    let some = ne_eqb (suc n) 0 (λ z. omega arith) in
    rw some (f (omega arith) ∙ (rw some at e))

sound-as : (s : List ℕ) (h : Header) → version_sound s h ≡ (eqb h.versions 0 || issue_at s (versions_at h))
unfolding version_sound
sound-as s h = refl

module _ (r : List ℕ) (none : size_number r ≡ 0) where
  sized : size_number (mended_record r) ≡ 0
  unfolding code_at constants_at relocation_at versions_at sources_at record_length
  sized =
      let small = m r none in
      let long = mended-length r none in
      size-cleared (mended_record r) record {
        header = omega (arith, long);
        sizes =
            rw (header-mended r none) (small-sizes (new_header r) record {
              imports = small.sizes.imports;
              code = small.sizes.code;
              globals = small.sizes.globals;
              constants = small.sizes.constants;
              relocation = small.sizes.relocation;
              versions = omega (arith, small.versions, small.sizes.versions);
              sources = omega (arith, small.counted, small.sizes.sources);
            });
        whole = rw (header-mended r none) (long ∙ omega arith);
      }

  -- The version word is the old one where it is sound, else gone.
  old-byte : (k : ℕ) → k < 4 * left r
      → byte_at (mended_record r) (versions_at (header_of r) + k) ≡ byte_at r (versions_at (header_of r) + k)
  old-byte k l =
      let at = versions_at (header_of r) in
      let front = (m r none).front in
      let place : 28 + (at - 28 + k) ≡ at + k = omega arith in
      rw place at (byte-shared (mended_record r) r 28 28 (size r) (at - 28 + k) (same_parts r none) (omega arith))

  old-issue : left r ≡ (header_of r).versions → 1 ≤ (header_of r).versions
      → issue_at (mended_record r) (versions_at (header_of r)) ≡ issue_at r (versions_at (header_of r))
  old-issue all some =
      same-issue (mended_record r) r (versions_at (header_of r)) (λ k l. old-byte k (omega arith))

  version-with : (b : Bool) → version_sound r (header_of r) ≡ b → version_sound (mended_record r) (new_header r) ≡ true
  version-with true e =
      let h = header_of r in
      let all : left r ≡ h.versions = rw e in
      rw (sound-as (mended_record r) (new_header r), versions-place r none, all)
      (sound-alike h.versions (sym (sound-as r h) ∙ e) (old-issue all))
  version-with false e =
      let none : left r ≡ 0 = rw e in
      rw (sound-as (mended_record r) (new_header r), none)

  source_sound_lem : source_sound (mended_record r) (new_header r) ≡ true
  unfolding source_sound source_offsets kept_pairs
  source_sound_lem =
      let h = header_of r in
      let small = m r none in
      let half : 2 * length (kept r) / 2 ≡ length (kept r) = omega arith in
      let even : 2 * length (kept r) % 2 ≡ 0 = omega arith in
      rw (even, half, sources-place r none)
      (kept-rise (sifted r h 0 (sources_at h) (h.sources / 2)) (omega (arith, small.whole, small.sources))
      (mended_record r) (versions_at h + 4 * left r) (from-pairs r none))

pub mends : Mends
mends r none = record {
  sized = sized r none;
  version = rw (header-mended r none) (version-with r none (version_sound r (header_of r)) refl);
  source = rw (header-mended r none) (source_sound_lem r none);
}

pub mends-once : MendsOnce
mends-once r bytes none =
    let new = mends r none in
    keeps-sound (mended_record r) (mended-bytes r none bytes) new.sized new.version new.source
