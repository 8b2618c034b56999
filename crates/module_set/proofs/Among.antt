-- Being among a list, and tests of every number of it: every number passes just if each that is among them does. By induction
-- on the list.
use mathlib.Core.Bool.{Bool, true, false, ◌||◌, false≢true, and-eq-true_iff}
use mathlib.Core.List.{List, [], ◌∷◌}
use mathlib.Core.Path.{◌≡◌, refl}
use Prim.Native.Nat.{ℕ}
use lib.Dec.{eqb}
use borrow.Author.Tests.{eqb-true, eq-eqb}
use Rattle.words.specs.Order.{every}
use Rattle.module_set.specs.Linked.{has}

pub every-among : (test : ℕ → Bool) (xs : List ℕ) → every test xs ≡ true → (x : ℕ) → has xs x ≡ true → test x ≡ true
every-among test [] e x h = absurd (false≢true h)
every-among test (y ∷ xs) e x h =
    let t = (and-eq-true_iff (test y) (every test xs)).0 e in
    by (eqb y x) refl h t.0 (every-among test xs t.1 x)
  where
    by : (b : Bool) → eqb y x ≡ b → (b || has xs x) ≡ true → test y ≡ true → (has xs x ≡ true → test x ≡ true) → test x ≡ true
    by true q g first rest = rw (eqb-true y x q) at first
    by false q g first rest = rest g

pub among-every : (test : ℕ → Bool) (xs : List ℕ) → ((x : ℕ) → has xs x ≡ true → test x ≡ true) → every test xs ≡ true
among-every test [] p = refl
among-every test (y ∷ xs) p =
    let first : test y ≡ true = p y (rw (eq-eqb y y refl)) in
    rw first (among-every test xs (λ x h. p x (either_way (eqb y x) (has xs x) h)))
  where
    either_way : (a b : Bool) → b ≡ true → (a || b) ≡ true
    either_way true b h = refl
    either_way false b h = h

pub every-same : (test other : ℕ → Bool) (xs : List ℕ) → ((x : ℕ) → test x ≡ other x) → every test xs ≡ every other xs
every-same test other [] e = refl
every-same test other (y ∷ xs) e = rw (e y, every-same test other xs e)

-- Nothing is among none.
pub none-among : (xs : List ℕ) → every (has []) xs ≡ true → xs ≡ []
none-among [] e = refl
none-among (x ∷ xs) e = absurd (false≢true e)
