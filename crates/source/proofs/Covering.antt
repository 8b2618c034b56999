-- An offset lies from the number that covers it on and before the next one; where numbers rise, no other has it so. By induction
-- on the numbers, with `front` for the one before them and `limit` for the one behind them.
use mathlib.Core.Bool.{true}
use mathlib.Core.List.{List, [], ◌∷◌}
use mathlib.Core.Path.{◌≡◌, refl, ap}
use Prim.Native.Nat.{ℕ, zero, suc, ◌+◌, ◌≤◌, ◌<◌, zero-le}
use native.Mathlib.Omega.{arith}
use lib.Dec.{leb}
use lib.ListN.{length, get_or}
use borrow.Author.Tests.{leb-true, leb-false, le-leb, lt-leb}
use Rattle.words.specs.Order.{rising_from}
use Rattle.words.proofs.Order.{rising-first}
use Rattle.words.proofs.Tests.{either, by-test}
use Rattle.source.specs.Source.{covering}

pub covering-most : (offset : ℕ) (xs : List ℕ) → covering offset xs ≤ length xs
covering-most offset [] = zero-le
covering-most offset (x ∷ xs) =
    let most = covering-most offset xs in
    either (λ (k : ℕ). k ≤ length (x ∷ xs)) (leb x offset) (suc (covering offset xs)) 0 (omega arith) zero-le

pub covering-from : (front offset : ℕ) (xs : List ℕ) → front ≤ offset → get_or (front ∷ xs) (covering offset xs) 0 ≤ offset
covering-from front offset [] h = h
covering-from front offset (x ∷ xs) h =
    by-test (λ (k : ℕ). get_or (front ∷ x ∷ xs) k 0 ≤ offset) (leb x offset) (suc (covering offset xs)) 0
    (λ t. covering-from x offset xs (leb-true x offset t))
    (λ f. h)

pub covering-next : (limit offset : ℕ) (xs : List ℕ) → offset < limit → offset < get_or xs (covering offset xs) limit
covering-next limit offset [] h = h
covering-next limit offset (x ∷ xs) h =
    by-test (λ (k : ℕ). offset < get_or (x ∷ xs) k limit) (leb x offset) (suc (covering offset xs)) 0
    (λ t. covering-next limit offset xs h)
    (leb-false x offset)

-- Numbers that rise: none is above the limit, and none below the one before them.
pub rising-limit : (limit least k : ℕ) (xs : List ℕ) → rising_from limit least xs ≡ true → get_or xs k limit ≤ limit
rising-limit limit least k [] e = omega arith
rising-limit limit least zero (x ∷ xs) e = omega (arith, (rising-first limit least x (rising_from limit (x + 1) xs) e).1)
rising-limit limit least (suc k) (x ∷ xs) e =
    rising-limit limit (x + 1) k xs (rising-first limit least x (rising_from limit (x + 1) xs) e).2

rising-front : (limit front k : ℕ) (xs : List ℕ) → rising_from limit (front + 1) xs ≡ true → k ≤ length xs
    → front ≤ get_or (front ∷ xs) k 0
rising-front limit front zero xs e n = omega arith
rising-front limit front (suc k) [] e n = absurd (omega arith)
rising-front limit front (suc k) (x ∷ xs) e n =
    let r = rising-first limit (front + 1) x (rising_from limit (x + 1) xs) e in
    let next = rising-front limit x k xs r.2 (omega arith) in
    omega arith

-- A number that an offset lies from on, before the next one, is the one that covers it.
pub covering-only : (limit least front offset k : ℕ) (xs : List ℕ) → rising_from limit least xs ≡ true → k ≤ length xs
    → get_or (front ∷ xs) k 0 ≤ offset → offset < get_or xs k limit → covering offset xs ≡ k
covering-only limit least front offset zero [] e n from to = refl
covering-only limit least front offset (suc k) [] e n from to = absurd (omega arith)
covering-only limit least front offset zero (x ∷ xs) e n from to = rw (lt-leb x offset to)
covering-only limit least front offset (suc k) (x ∷ xs) e n from to =
    let r = rising-first limit least x (rising_from limit (x + 1) xs) e in
    let first = rising-front limit x k xs r.2 (omega arith) in
    rw (le-leb x offset (omega arith)) (ap suc (covering-only limit (x + 1) x offset k xs r.2 (omega arith) from to))
