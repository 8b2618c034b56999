-- The new record taken apart: from each place on stand the pieces that it is made of. So its header is the old one with two
-- other sizes, its parts are the old ones, and it is a list of bytes.
use mathlib.Core.List.{List, [], ◌∷◌, ◌++◌, append_assoc}
use mathlib.Core.Path.{◌≡◌, ◌∙◌, refl, sym, ap}
use Prim.Native.Nat.{ℕ, zero, suc, ◌+◌, ◌*◌, ◌-◌, ◌≤◌, ◌<◌}
use native.Mathlib.Omega.{arith}
use lib.ListN.{length, take, drop, length-drop}
use lib.Seq.{length-take-le, take_at, drop_at, drop-drop, take-add}
use mir.Syntax.{w32}
use Rattle.std.specs.Int.{to_be_bytes}
use Rattle.std.proofs.lemmas.Nat.{be_bytes_4}
use Rattle.words.specs.Bytes.{Bytes, halfword_at, word_at}
use Rattle.words.proofs.Bytes.{word-shared, bytes-append, bytes_take, bytes_drop}
use Rattle.header.specs.declared.Header.{Header}
use Rattle.header.specs.Header.{header_of, code_at, constants_at, relocation_at, versions_at, sources_at}
use Rattle.record.specs.Number.{size_number}
use Rattle.mend.specs.Mend.{word_bytes, pair_bytes, mended_record}
use Rattle.mend.proofs.Measuring.{left, kept, pairs, size, body, m, header-length, body-length}

-- A word as its bytes, read again.
pub word-written : (w : ℕ) → word_at (word_bytes w) 0 ≡ w
unfolding word_at halfword_at
word-written w = omega arith

-- Its bytes in front of others.
pub word-in-front : (s rest : List ℕ) (i w : ℕ) → drop i s ≡ word_bytes w ++ rest → word_at s i ≡ w
word-in-front s rest i w e =
    let at : i + 0 ≡ i = omega arith in
    rw (← at) (word-shared s (word_bytes w) i 0 4 0 (rw e) (omega arith) ∙ word-written w)

word-bytes : (w : ℕ) → w < 4294967296 → Bytes (word_bytes w)
word-bytes w l zero = omega arith
word-bytes w l (suc zero) = omega arith
word-bytes w l (suc (suc zero)) = omega arith
word-bytes w l (suc (suc (suc zero))) = omega arith
word-bytes w l (suc (suc (suc (suc i)))) = omega arith

pub big-endian : (w : ℕ) → w < 4294967296 → to_be_bytes w32 w ≡ word_bytes w
big-endian w l = be_bytes_4 (word_bytes w) w refl (word-bytes w l) (omega arith)

pair-bytes : (r ps : List ℕ) → Bytes r → Bytes (pair_bytes r ps)
pair-bytes r [] b = λ i. omega arith
pair-bytes r (p ∷ ps) b =
    bytes-append (take 8 (drop p r)) (pair_bytes r ps) (bytes_take 8 (drop p r) (bytes_drop p r b)) (pair-bytes r ps b)

-- The header with the sizes that "follow".
abbrev pub new_header : List ℕ → Header
new_header r =
    let h = header_of r in
    record {
      imports = h.imports;
      code = h.code;
      globals = h.globals;
      constants = h.constants;
      relocation = h.relocation;
      versions = left r;
      sources = 2 * length (kept r);
    }

module _ (r : List ℕ) (none : size_number r ≡ 0) where
  pub same-front : take 20 (mended_record r) ≡ take 20 r
  unfolding mended_record
  same-front = take_at (take 20 r) _ 20 (header-length r none)

  from-version : drop 20 (mended_record r) ≡ word_bytes (left r) ++ (word_bytes (2 * length (kept r)) ++ (body r ++ pairs r))
  unfolding mended_record
  from-version = drop_at (take 20 r) _ 20 (header-length r none)

  from-sources : drop 24 (mended_record r) ≡ word_bytes (2 * length (kept r)) ++ (body r ++ pairs r)
  from-sources = sym (drop-drop 4 20 (mended_record r)) ∙ ap (λ (l : List ℕ). drop 4 l) from-version

  from_parts : drop 28 (mended_record r) ≡ body r ++ pairs r
  from_parts = sym (drop-drop 4 24 (mended_record r)) ∙ ap (λ (l : List ℕ). drop 4 l) from-sources

  pub same_parts : take (size r) (drop 28 (mended_record r)) ≡ take (size r) (drop 28 r)
  same_parts = rw from_parts (take_at (body r) (pairs r) (size r) (body-length r none))

  pub from-pairs : drop (versions_at (header_of r) + 4 * left r) (mended_record r) ≡ pairs r
  from-pairs =
      let place : 28 + size r ≡ versions_at (header_of r) + 4 * left r = omega (arith, (m r none).front) in
      rw (← place, ← drop-drop (size r) 28 (mended_record r), from_parts)
      (drop_at (body r) (pairs r) (size r) (body-length r none))

  pub from-versions : let at = versions_at (header_of r) in drop at (mended_record r) ≡ take (4 * left r) (drop at r) ++ pairs r
  from-versions =
      let at = versions_at (header_of r) in
      let k = at - 28 in
      let front = take k (drop 28 r) in
      let place : 28 + k ≡ at = omega (arith, (m r none).front) in
      let all : size r ≡ k + 4 * left r = omega (arith, (m r none).front) in
      let long : k ≤ length r - 28 = omega (arith, (m r none).whole) in
      let there : length front ≡ k = length-take-le k (drop 28 r) (simp length-drop long) in
      rw (← place, ← drop-drop k 28 (mended_record r), from_parts, all, take-add k (4 * left r) (drop 28 r), append_assoc)
      (drop_at front (take (4 * left r) (drop k (drop 28 r)) ++ pairs r) k there ∙ rw (drop-drop k 28 r))

  same_size : (k : ℕ) → k + 4 ≤ 20 → word_at (mended_record r) (0 + k) ≡ word_at r (0 + k)
  same_size k l = word-shared (mended_record r) r 0 0 20 k same-front l

  pub header-mended : header_of (mended_record r) ≡ new_header r
  unfolding header_of
  header-mended =
      rw (
        same_size 0 (omega arith),
        same_size 4 (omega arith),
        same_size 8 (omega arith),
        same_size 12 (omega arith),
        same_size 16 (omega arith),
        word-in-front (mended_record r) _ 20 (left r) from-version,
        word-in-front (mended_record r) _ 24 (2 * length (kept r)) from-sources,
      )

  -- Its tables stand where they stood, the source table behind what is left of the version table.
  pub versions-place : versions_at (new_header r) ≡ versions_at (header_of r)
  unfolding code_at constants_at relocation_at versions_at
  versions-place = refl

  pub sources-place : sources_at (new_header r) ≡ versions_at (header_of r) + 4 * left r
  unfolding sources_at
  sources-place = rw versions-place

  pub mended-bytes : Bytes r → Bytes (mended_record r)
  unfolding mended_record
  mended-bytes b =
      let small = m r none in
      let versions = word_bytes (left r) in
      let sources = word_bytes (2 * length (kept r)) in
      let rest = body r ++ pairs r in
      let few = word-bytes (left r) (omega (arith, small.versions, small.sizes.versions)) in
      let some = word-bytes (2 * length (kept r)) (omega (arith, small.counted, small.sizes.sources)) in
      bytes-append (take 20 r) (versions ++ (sources ++ rest)) (bytes_take 20 r b)
      (bytes-append versions (sources ++ rest) few
      (bytes-append sources rest some
      (bytes-append (body r) (pairs r) (bytes_take (size r) (drop 28 r) (bytes_drop 28 r b)) (pair-bytes r (kept r) b))))
