-- Values in a row: each of them, how many they are, and the first of them; and a list that is filled in turn. By induction on how
-- many.
use Prim.Native.Nat.{ℕ, zero, suc, ◌+◌, ◌*◌, ◌<◌, ◌≤◌}
use mathlib.Core.Path.{◌≡◌, ◌∙◌, refl, sym, ap}
use mathlib.Core.List.{List, ◌∷◌}
use native.Mathlib.Nat.{add-zero, mul-zero, mul-suc}
use native.Mathlib.Omega.{arith}
use lib.ListN.{length, take, set, get_or}
use lib.Seq.{take_all, take-suc, take-suc-set}
use Rattle.words.specs.Series.{series}

-- Value j, and how many there are.
pub series-at : (f : ℕ → ℕ) (stride at n j : ℕ) → j < n → get_or (series f stride at n) j 0 ≡ f (at + stride * j)
series-at f stride at zero j h = absurd (omega arith)
series-at f stride at (suc n) zero h = rw (mul-zero stride, add-zero)
series-at f stride at (suc n) (suc j) h =
    let e : at + stride + stride * j ≡ at + stride * suc j = rw (mul-suc stride j) (omega arith) in
    series-at f stride (at + stride) n j (omega arith) ∙ ap f e

pub series-length : (f : ℕ → ℕ) (stride at n : ℕ) → length (series f stride at n) ≡ n
series-length f stride at zero = refl
series-length f stride at (suc n) = ap suc (series-length f stride (at + stride) n)

-- The first of the values are as many from the same place.
pub series-part : (f : ℕ → ℕ) (stride at k n : ℕ) → k ≤ n → take k (series f stride at n) ≡ series f stride at k
series-part f stride at zero n h = refl
series-part f stride at (suc k) zero h = absurd (omega arith)
series-part f stride at (suc k) (suc n) h =
    ap (λ (w : List ℕ). f at ∷ w) (series-part f stride (at + stride) k n (omega arith))

-- Functions that agree at these places.
pub series-same :
    (f g : ℕ → ℕ) (at n : ℕ) → ((i : ℕ) → at ≤ i → i < at + n → f i ≡ g i) → series f 1 at n ≡ series g 1 at n
series-same f g at zero e = refl
series-same f g at (suc n) e =
    rw (e at (omega arith) (omega arith), series-same f g (at + 1) n (λ i a b. e i (omega arith) (omega arith)))

-- A list that is filled up to a place: one word more, and all of it.
pub filled_next : (m target : List ℕ) (i x : ℕ) → take i m ≡ take i target → i < length m → length m ≡ length target →
    x ≡ get_or target i 0 → take (i + 1) (set m i x) ≡ take (i + 1) target
filled_next m target i x same l n e =
    let next : i + 1 ≡ suc i = omega arith in
    rw next (take-suc-set m i x l ∙ rw (same, e) (sym (take-suc target i 0 (omega arith))))

pub filled-all : (m target : List ℕ) (i : ℕ) → take i m ≡ take i target → length m ≤ i → length m ≡ length target → m ≡ target
filled-all m target i same l n = sym (take_all i m l) ∙ same ∙ take_all i target (omega arith)
