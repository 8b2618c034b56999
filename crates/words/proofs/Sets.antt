-- Words stored one after the other into a list: two pieces are one, past the end nothing is stored, other places keep what they have,
-- and in the second part of a list. By induction on what is stored.
use Prim.Native.Nat.{ℕ, zero, suc, ◌+◌, ◌-◌, ◌≤◌, ◌<◌}
use mathlib.Core.Path.{◌≡◌, ◌∙◌, refl, sym, ap}
use mathlib.Core.List.{List, [], ◌∷◌, ◌++◌, append-nil}
use native.Mathlib.Nat.{zero-add, add-zero, add-suc, suc-add}
use native.Mathlib.Numerals.{add-one}
use native.Mathlib.Omega.{arith}
use lib.ListN.{length, get_or, take, drop, set, length-drop, take-append-drop, drop_of_length-le, length-set}
use lib.Seq.{sets, set_out, get_or-set_same, get_or-set_other, take_all, take-suc, length-take-le}

-- Whether there is room for them or not.
pub sets_then : (l : List ℕ) (i : ℕ) (x y : List ℕ) → sets (sets l i x) (i + length x) y ≡ sets l i (x ++ y)
sets_then l i [] y = rw (add-zero i)
sets_then l i (v ∷ x) y = rw (add-suc i (length x), ← suc-add i (length x)) (sets_then (set l i v) (suc i) x y)

pub sets_behind : (l : List ℕ) (i j : ℕ) (x y : List ℕ) → j ≡ i + length x → sets (sets l i x) j y ≡ sets l i (x ++ y)
sets_behind l i j x y e = rw e (sets_then l i x y)

pub sets-out : (l : List ℕ) (i : ℕ) (vs : List ℕ) → length l ≤ i → sets l i vs ≡ l
sets-out l i [] h = refl
sets-out l i (v ∷ vs) h = rw (set_out l i v h) (sets-out l (suc i) vs (omega arith))

pub sets-other : (l : List ℕ) (j : ℕ) (vs : List ℕ) (i : ℕ) → (j ≤ i → i < j + length vs → ⊥) → get_or (sets l j vs) i 0 ≡ get_or l i 0
sets-other l j [] i h = refl
sets-other l j (v ∷ vs) i h =
    sets-other (set l j v) (suc j) vs i (λ a b. h (omega arith) (omega arith))
    ∙ get_or-set_other l j i v 0 (λ e. h (omega arith) (omega arith))

-- The places that are stored to have what is stored.
sets-at : (vs l : List ℕ) (j i : ℕ) → i < length vs → j + i < length l → get_or (sets l j vs) (j + i) 0 ≡ get_or vs i 0
sets-at [] l j i h g = absurd (omega arith)
sets-at (v ∷ vs) l j zero h g =
    let z : j + 0 ≡ j = omega arith in
    rw z (sets-other (set l j v) (suc j) vs j (λ a b. omega arith) ∙ get_or-set_same l j v 0 (omega arith))
sets-at (v ∷ vs) l j (suc i) h g =
    let z : suc j + i ≡ j + suc i = omega arith in
    rw z at (sets-at vs (set l j v) (suc j) i (omega arith) (omega (arith, length-set l j v)))

pub sets-front : (vs l : List ℕ) (i : ℕ) → i < length vs → i < length l → get_or (sets l 0 vs) i 0 ≡ get_or vs i 0
sets-front vs l i h g = let z : 0 + i ≡ i = omega arith in rw z at (sets-at vs l 0 i h (omega arith))

set-right : (p q : List ℕ) (i v : ℕ) → set (p ++ q) (length p + i) v ≡ p ++ set q i v
set-right [] q i v = rw (zero-add i)
set-right (x ∷ p) q i v = rw (suc-add (length p) i) (ap (λ (l : List ℕ). x ∷ l) (set-right p q i v))

sets-right : (p q : List ℕ) (i : ℕ) (vs : List ℕ) → sets (p ++ q) (length p + i) vs ≡ p ++ sets q i vs
sets-right p q i [] = refl
sets-right p q i (v ∷ vs) = rw (set-right p q i v, ← add-suc (length p) i) (sets-right p (set q i v) (suc i) vs)

-- Stores into the part of a list from a on are stores into the list.
sets-part : (m : List ℕ) (a : ℕ) (vs : List ℕ) → a ≤ length m → take a m ++ sets (drop a m) 0 vs ≡ sets m a vs
sets-part m a vs h =
    let whole : take a m ++ drop a m ≡ m = take-append-drop a m in
    let place : length (take a m) + 0 ≡ a = omega (arith, length-take-le a m h) in
    sym (sets-right (take a m) (drop a m) 0 vs) ∙ rw (whole, place)

pub sets-one-more : (d s : List ℕ) (i : ℕ) → i < length s → set (sets d 0 (take i s)) i (get_or s i 0) ≡ sets d 0 (take (i + 1) s)
sets-one-more d s i h =
    let e : 0 + length (take i s) ≡ i = omega (arith, length-take-le i s (omega arith)) in
    rw (add-one i, take-suc s i 0 h, ← sets_then d 0 (take i s) (get_or s i 0 ∷ []), e)

-- What stores into the part from a on, lent and given back, make of the list.
pub sets-within : (m : List ℕ) (a : ℕ) (vs p : List ℕ) → a ≤ length m → p ≡ sets (take (length m - a) (drop a m)) 0 vs
    → take a m ++ (p ++ drop (length m - a) (drop a m)) ≡ sets m a vs
sets-within m a vs p h e =
    let none : drop (length m - a) (drop a m) ≡ [] = drop_of_length-le (drop a m) {i = length m - a} (simp length-drop (omega arith)) in
    let all : take (length m - a) (drop a m) ≡ drop a m = take_all (length m - a) (drop a m) (simp length-drop (omega arith)) in
    rw (none, e, all, append-nil) (sets-part m a vs h)
