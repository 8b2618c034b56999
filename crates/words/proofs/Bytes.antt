-- Numbers read past the end of a list are 0: each of their bytes is. A halfword of bytes is below 65,536. Lists that have a part
-- in common have its numbers in common, and parts of bytes are bytes.
use mathlib.Core.Path.{◌≡◌, ◌∙◌, sym, ap}
use mathlib.Core.List.{List, [], ◌∷◌, ◌++◌}
use Prim.Native.Nat.{ℕ, zero, suc, ◌+◌, ◌≤◌, ◌<◌, min}
use native.Mathlib.Omega.{arith}
use lib.ListN.{length, get_or, take, drop, get_or-eq_default}
use lib.Seq.{get_or-take, get_or-drop}
use Rattle.words.specs.Bytes.{byte_at, Bytes, halfword_at, word_at}
use Rattle.words.proofs.Slices.{drop-one}

pub byte_past : (s : List ℕ) (i : ℕ) → length s ≤ i → byte_at s i ≡ 0
byte_past s i h = get_or-eq_default s 0 h

pub halfword-past : (s : List ℕ) (i : ℕ) → length s ≤ i → halfword_at s i ≡ 0
unfolding halfword_at
halfword-past s i h =
    let a : byte_at s i ≡ 0 = byte_past s i h in
    let b : byte_at s (i + 1) ≡ 0 = byte_past s (i + 1) (omega arith) in
    omega arith

pub word-past : (s : List ℕ) (i : ℕ) → length s ≤ i → word_at s i ≡ 0
unfolding word_at
word-past s i h =
    let a : halfword_at s i ≡ 0 = halfword-past s i h in
    let b : halfword_at s (i + 2) ≡ 0 = halfword-past s (i + 2) (omega arith) in
    omega arith

-- A place that is held down to one past the end reads as it would.
pub halfword-capped : (s : List ℕ) (i most n : ℕ) → n ≡ min i most → length s ≤ most → halfword_at s n ≡ halfword_at s i
halfword-capped s i most n e l = grind (arith, halfword-past)

pub word-capped : (s : List ℕ) (i most n : ℕ) → n ≡ min i most → length s ≤ most → word_at s n ≡ word_at s i
word-capped s i most n e l = grind (arith, word-past)

pub halfword-below : (s : List ℕ) → Bytes s → (i : ℕ) → halfword_at s i < 65536
unfolding halfword_at
halfword-below s bytes i = omega (arith, bytes i, bytes (i + 1))

-- The part of one list from a on is that of another from b on.
pub byte-shared : (s t : List ℕ) (a b n k : ℕ) → take n (drop a s) ≡ take n (drop b t) → k < n
    → byte_at s (a + k) ≡ byte_at t (b + k)
byte-shared s t a b n k e l =
    let one : get_or (take n (drop a s)) k 0 ≡ byte_at s (a + k) = get_or-take n (drop a s) k 0 l ∙ get_or-drop a s k 0 in
    let other : get_or (take n (drop b t)) k 0 ≡ byte_at t (b + k) = get_or-take n (drop b t) k 0 l ∙ get_or-drop b t k 0 in
    sym one ∙ (ap (λ (p : List ℕ). get_or p k 0) e ∙ other)

pub word-shared : (s t : List ℕ) (a b n k : ℕ) → take n (drop a s) ≡ take n (drop b t) → k + 4 ≤ n
    → word_at s (a + k) ≡ word_at t (b + k)
unfolding halfword_at word_at
word-shared s t a b n k e l =
    let at : (i : ℕ) → i < 4 → byte_at s (a + k + i) ≡ byte_at t (b + k + i) = λ i j.
    let p : a + k + i ≡ a + (k + i) = omega arith in
    let q : b + k + i ≡ b + (k + i) = omega arith in
    rw (p, q) (byte-shared s t a b n (k + i) e (omega arith)) in
    let p : a + k + 2 + 1 ≡ a + k + 3 = omega arith in
    let q : b + k + 2 + 1 ≡ b + k + 3 = omega arith in
    let first : byte_at s (a + k) ≡ byte_at t (b + k) = byte-shared s t a b n k e (omega arith) in
    rw (p, q, first, at 1 (omega arith), at 2 (omega arith), at 3 (omega arith))

pub four_bytes : (s : List ℕ) (i : ℕ) → i + 4 ≤ length s →
    take 4 (drop i s) ≡ byte_at s i ∷ byte_at s (i + 1) ∷ byte_at s (i + 2) ∷ byte_at s (i + 3) ∷ []
four_bytes s i l =
    let two : i + 1 + 1 ≡ i + 2 = omega arith in
    let three : i + 2 + 1 ≡ i + 3 = omega arith in
    rw (
      drop-one s i (omega arith),
      drop-one s (i + 1) (omega arith),
      two,
      drop-one s (i + 2) (omega arith),
      three,
      drop-one s (i + 3) (omega arith),
    )

-- Parts of bytes are bytes.
pub bytes-append : (s t : List ℕ) → Bytes s → Bytes t → Bytes (s ++ t)
bytes-append [] t a b i = b i
bytes-append (x ∷ s) t a b zero = a 0
bytes-append (x ∷ s) t a b (suc i) = bytes-append s t (λ j. a (suc j)) b i

pub bytes_take : (n : ℕ) (s : List ℕ) → Bytes s → Bytes (take n s)
bytes_take zero s a i = omega arith
bytes_take (suc n) [] a i = omega arith
bytes_take (suc n) (x ∷ s) a zero = a 0
bytes_take (suc n) (x ∷ s) a (suc i) = bytes_take n s (λ j. a (suc j)) i

pub bytes_drop : (n : ℕ) (s : List ℕ) → Bytes s → Bytes (drop n s)
bytes_drop n s a i = rw (get_or-drop n s i 0) (a (n + i))
