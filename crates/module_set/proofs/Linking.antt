-- Imports and what they are linked to: the module of a library number, whether every import is lent, and what decides 17. The
-- import list is values in a row, and a SID is lent just if it has a module's number.
use mathlib.Core.Bool.{Bool, true, false, not, and-false, and-eq-true_iff}
use mathlib.Core.List.{List, [], ◌∷◌}
use mathlib.Core.Path.{◌≡◌, refl, ap}
use Prim.Native.Nat.{ℕ, zero, suc, ◌+◌, ◌*◌, ◌<◌, ◌≤◌}
use native.Mathlib.Omega.{arith}
use lib.Dec.{eqb, leb, ltb}
use lib.ListN.{length, get_or}
use borrow.Author.Tests.{lt-ltb, le-ltb, le-leb, lt-leb, leb-true}
use Rattle.words.specs.Bytes.{word_at}
use Rattle.words.specs.Order.{every}
use Rattle.words.proofs.Series.{series-at, series-length}
use Rattle.words.proofs.Tests.{either}
use Rattle.header.specs.Header.{header_of}
use Rattle.module_set.specs.Members.{Member, Members, libraries, imports_of, number_of, resolved}
use Rattle.module_set.specs.Linked.{has, sids_of, distinct, every_member, linked}
use Rattle.module_set.proofs.Sids.{number-seeks, seek-has, seek-below}

abbrev pub lent : Members → ℕ → Bool
lent S = has (sids_of (libraries S))

pub lent-number : (S : Members) (x : ℕ) → lent S x ≡ not (eqb (number_of S x) 0)
unfolding number_of
lent-number S x = rw (number-seeks 1 (libraries S) x) (seek-has 1 (sids_of (libraries S)) x (omega arith))

module _ (S : Members) (r : List ℕ) where
  pub resolved-none : (l : ℕ) → l ≡ 0 → 0 ≡ resolved S r l
  unfolding resolved
  resolved-none l e = rw e

  pub resolved-past : (l : ℕ) → (header_of r).imports < l → 0 ≡ resolved S r l
  unfolding resolved
  resolved-past zero h = absurd (omega arith)
  resolved-past (suc l) h =
      let n = (header_of r).imports in
      rw (series-length (word_at r) 4 28 n, le-ltb l n (omega arith))

  pub resolved-import : (l : ℕ) → (l ≡ 0 → ⊥) → l ≤ (header_of r).imports → resolved S r l ≡ number_of S (word_at r (24 + 4 * l))
  unfolding resolved
  resolved-import zero some h = absurd (some refl)
  resolved-import (suc l) some h =
      let n = (header_of r).imports in
      let z : 28 + 4 * l ≡ 24 + 4 * suc l = omega arith in
      rw (series-length (word_at r) 4 28 n, lt-ltb l n (omega arith), series-at (word_at r) 4 28 n l (omega arith), z)

-- A module's number is below the number of modules, or 1 where there are none.
pub number_small : (S : Members) (x : ℕ) → number_of S x ≤ length S + 1
unfolding number_of
number_small S x =
    rw (number-seeks 1 (libraries S) x)
    (omega (arith, seek-below 1 (sids_of (libraries S)) x, sids-length (libraries S), fewer S))
  where
    sids-length : (S : Members) → length (sids_of S) ≡ length S
    sids-length [] = refl
    sids-length (M ∷ S) = ap suc (sids-length S)

    fewer : (S : Members) → length (libraries S) ≤ length S
    fewer [] = omega arith
    fewer (M ∷ S) = omega arith

pub resolved-small : (S : Members) (r : List ℕ) (l : ℕ) → resolved S r l ≤ length S + 1
unfolding resolved
resolved-small S r zero = omega arith
resolved-small S r (suc l) =
    let imports = imports_of r in
    either (λ (n : ℕ). n ≤ length S + 1) (ltb l (length imports)) (number_of S (get_or imports l 0)) 0
    (number_small S (get_or imports l 0)) (omega arith)

-- What decides 17.
abbrev pub imports_lent : Members → Member → Bool
imports_lent S M = every (lent S) (imports_of M.bytes)

module _ (S : Members) where
  pub linked-many : 16 < length S → false ≡ linked S
  unfolding linked
  linked-many h = rw (lt-leb (length S) 16 h)

  pub linked-alike : distinct (sids_of (libraries S)) ≡ false → false ≡ linked S
  unfolding linked
  linked-alike e = rw (e, and-false (leb (length S) 16))

  pub linked-each : length S ≤ 16 → distinct (sids_of (libraries S)) ≡ true → linked S ≡ every_member (imports_lent S) S
  unfolding linked
  linked-each h e = rw (le-leb (length S) 16 h, e)

  pub linked-few : linked S ≡ true → length S ≤ 16
  unfolding linked
  linked-few e = leb-true (length S) 16 ((and-eq-true_iff (leb (length S) 16) _).0 e).0

  pub linked-imports : linked S ≡ true → every_member (imports_lent S) S ≡ true
  unfolding linked
  linked-imports e =
      let t = (and-eq-true_iff (leb (length S) 16) _).0 e in
      ((and-eq-true_iff (distinct (sids_of (libraries S))) (every_member (imports_lent S) S)).0 t.1).1
