-- The header words of the modules, row by row, and what stays of them where memory stays in the fixed places.
use Prim.Native.Nat.{ℕ, zero, suc, ◌+◌, ◌-◌, ◌*◌, ◌<◌, ◌≤◌}
use mathlib.Core.Path.{◌≡◌, ◌∙◌, refl}
use mathlib.Core.Bool.{Bool, true, false, ◌||◌, ◌&&◌, and-eq-true_iff}
use mathlib.Core.List.{List, [], ◌∷◌}
use native.Mathlib.Omega.{arith}
use Rattle.words.proofs.Left.{one_left}
use lib.Dec.{eqb}
use lib.ListN.{length}
use borrow.Author.Tests.{eqb-true, le-leb, lt-ltb}
use Rattle.registers.specs.Memory.{read}
use Rattle.registers.specs.Modules.{Module, Modules, module_at, data_size, data_start, is_fixed, between}
use Rattle.registers.specs.Modules.{row_word, rows_from}
use Rattle.registers.proofs.Rows.{row_bound}
use Rattle.state.specs.Fits.{header_kept, headers_kept}

-- A loop over the rows.
pub record Comparing (t m : List ℕ) (n start k : ℕ) : Type 0 where
  pub count : k ≤ n
  pub small : start ≤ k * row_bound
  pub same : (copy : List ℕ) → headers_kept 0 0 (rows_from t copy 0 n) m ≡ headers_kept k start (rows_from t copy k (n - k)) m

pub comparing-start : (t m : List ℕ) (n : ℕ) → Comparing t m n 0 0
comparing-start t m n =
    let none : n - 0 ≡ n = omega arith in
    record { count = omega arith; small = omega arith; same = λ copy. rw none }

module _ (t m : List ℕ) (n start k : ℕ) (w : Comparing t m n start k) where
  pub comparing-end : n ≤ k → (copy : List ℕ) → headers_kept 0 0 (rows_from t copy 0 n) m ≡ true
  comparing-end h copy =
      let none : n - k ≡ 0 = omega arith in
      w.same copy ∙ rw none

  pub comparing-break : k < n → header_kept m k start (row_word t k 2) ≡ false
      → (copy : List ℕ) → headers_kept 0 0 (rows_from t copy 0 n) m ≡ false
  comparing-break h e copy = w.same copy ∙ rw (one_left k n h, e)

  pub comparing-next : k < n → header_kept m k start (row_word t k 2) ≡ true → row_word t k 2 < 0x1_0000_0000
      → row_word t k 3 < 0x1_0000_0000 → Comparing t m n (start + 3 + row_word t k 2 + row_word t k 3) (k + 1)
  comparing-next h e g d =
      let sum : start + (3 + row_word t k 2 + row_word t k 3) ≡ start + 3 + row_word t k 2 + row_word t k 3 = omega arith in
      record {
        count = omega arith;
        small = omega (arith, w.small);
        same = λ copy. w.same copy ∙ rw (one_left k n h, e, sum);
      }

-- Header words are fixed, so they stay where the fixed words do.
last-true : (a b : Bool) → b ≡ true → (a || b) ≡ true
last-true true b e = refl
last-true false b e = e

module _ (start : ℕ) (M : Module) (Ms : Modules) where
  header-fixed : (a : ℕ) → start ≤ a → a < start + 3 → is_fixed start (M ∷ Ms) a ≡ true
  header-fixed a l r = rw (le-leb start a l, lt-ltb a (start + 3) r)

  rest-fixed : (a : ℕ) → is_fixed (start + data_size M) Ms a ≡ true → is_fixed start (M ∷ Ms) a ≡ true
  rest-fixed a h =
      last-true (between start (start + 3) a || between (start + 3 + M.globals) (start + data_size M) a)
      (is_fixed (start + data_size M) Ms a) h

pub headers-same : (k start : ℕ) (Ms : Modules) (m n : List ℕ) → ((a : ℕ) → is_fixed start Ms a ≡ true → read n a ≡ read m a)
    → headers_kept k start Ms n ≡ headers_kept k start Ms m
unfolding header_kept
headers-same k start [] m n h = refl
headers-same k start (M ∷ Ms) m n h =
    rw (
      h start (header-fixed start M Ms start (omega arith) (omega arith)),
      h (start + 1) (header-fixed start M Ms (start + 1) (omega arith) (omega arith)),
      h (start + 2) (header-fixed start M Ms (start + 2) (omega arith) (omega arith)),
      headers-same (k + 1) (start + data_size M) Ms m n (λ a f. h a (rest-fixed start M Ms a f)),
    )

-- Header word 2 of a module has where its constants begin.
constants-here : (m : List ℕ) (k start globals : ℕ) → header_kept m k start globals ≡ true → read m (start + 2) ≡ start + 3 + globals
unfolding header_kept
constants-here m k start globals h =
    let p = (and-eq-true_iff (eqb (read m start) 0) (eqb (read m (start + 1)) k && eqb (read m (start + 2)) (start + 3 + globals))).0 h in
    let r = (and-eq-true_iff (eqb (read m (start + 1)) k) (eqb (read m (start + 2)) (start + 3 + globals))).0 p.1 in
    eqb-true (read m (start + 2)) (start + 3 + globals) r.1

number-here : (m : List ℕ) (k start globals : ℕ) → header_kept m k start globals ≡ true → read m (start + 1) ≡ k
unfolding header_kept
number-here m k start globals h =
    let p = (and-eq-true_iff (eqb (read m start) 0) (eqb (read m (start + 1)) k && eqb (read m (start + 2)) (start + 3 + globals))).0 h in
    let r = (and-eq-true_iff (eqb (read m (start + 1)) k) (eqb (read m (start + 2)) (start + 3 + globals))).0 p.1 in
    eqb-true (read m (start + 1)) k r.0

pub header_at : (j start : ℕ) (Ms : Modules) (m : List ℕ) (k : ℕ) → k < length Ms → headers_kept j start Ms m ≡ true
    → header_kept m (j + k) (data_start start Ms k) (module_at Ms k).globals ≡ true
header_at j start [] m k h e = absurd (omega arith)
header_at j start (M ∷ Ms) m zero h e =
    let none : j + 0 ≡ j = omega arith in
    rw none ((and-eq-true_iff (header_kept m j start M.globals) (headers_kept (j + 1) (start + data_size M) Ms m)).0 e).0
header_at j start (M ∷ Ms) m (suc k) h e =
    let next : j + suc k ≡ j + 1 + k = omega arith in
    rw next (header_at (j + 1) (start + data_size M) Ms m k (omega arith)
    ((and-eq-true_iff (header_kept m j start M.globals) (headers_kept (j + 1) (start + data_size M) Ms m)).0 e).1)

pub constants-word : (Ms : Modules) (m : List ℕ) (k : ℕ) → k < length Ms → headers_kept 0 0 Ms m ≡ true
    → read m (data_start 0 Ms k + 2) ≡ data_start 0 Ms k + 3 + (module_at Ms k).globals
constants-word Ms m k h e = constants-here m (0 + k) (data_start 0 Ms k) (module_at Ms k).globals (header_at 0 0 Ms m k h e)
