-- When an address is protected, by where it lies: at or above FP never, below the frames of calls by the data frames, and among the
-- frames of calls by the links.
use Prim.Native.Nat.{ℕ, zero, suc, ◌+◌, ◌-◌, ◌<◌, ◌≤◌}
use mathlib.Core.Path.{◌≡◌, refl, sym, ◌∙◌}
use mathlib.Core.Bool.{Bool, true, false}
use mathlib.Core.List.{List, [], ◌∷◌}
use native.Mathlib.Omega.{arith}
use lib.Dec.{leb}
use lib.ListN.{length}
use borrow.Author.Tests.{le-ltb, le-leb, lt-leb, leb-true, leb-false}
use Rattle.registers.specs.declared.Registers.{Registers}
use Rattle.registers.specs.Modules.{Modules, module_at, data_size, data_start, data_end, frames_start, globals_start, is_fixed}
use Rattle.registers.specs.Memory.{live, is_link, chained, protects}
use Rattle.registers.proofs.Links.{chain-start, link-above, link-under}

-- Data frames lie one behind the other.
pub data-rises : (start : ℕ) (Ms : Modules) → start ≤ data_end start Ms
data-rises start [] = omega arith
data-rises start (M ∷ Ms) = omega (arith, data-rises (start + data_size M) Ms)

pub data-within : (start : ℕ) (Ms : Modules) (k : ℕ) → k < length Ms
    → (start ≤ data_start start Ms k) × (data_start start Ms k + data_size (module_at Ms k) ≤ data_end start Ms)
data-within start [] k h = absurd (omega arith)
data-within start (M ∷ Ms) zero h = (omega arith, data-rises (start + data_size M) Ms)
data-within start (M ∷ Ms) (suc k) h =
    let rest = data-within (start + data_size M) Ms k (omega arith) in
    (omega (arith, rest.0), rest.1)

-- Nothing is fixed before the first data frame, nor behind the last, nor among globals.
pub fixed-before : (start : ℕ) (Ms : Modules) (a : ℕ) → a < start → is_fixed start Ms a ≡ false
fixed-before start [] a h = refl
fixed-before start (M ∷ Ms) a h =
    rw (
      lt-leb start a h,
      lt-leb (start + 3 + M.globals) a (omega arith),
    ) (fixed-before (start + data_size M) Ms a (omega arith))

pub fixed-behind : (start : ℕ) (Ms : Modules) (a : ℕ) → data_end start Ms ≤ a → is_fixed start Ms a ≡ false
fixed-behind start [] a h = refl
fixed-behind start (M ∷ Ms) a h =
    let rises : start + data_size M ≤ data_end (start + data_size M) Ms = data-rises (start + data_size M) Ms in
    rw (
      le-leb start a (omega arith),
      le-ltb a (start + 3) (omega arith),
      le-leb (start + 3 + M.globals) a (omega arith),
      le-ltb a (start + data_size M) (omega arith),
    ) (fixed-behind (start + data_size M) Ms a h)

pub globals-free : (start : ℕ) (Ms : Modules) (k a : ℕ) → k < length Ms → data_start start Ms k + 3 ≤ a
    → a < data_start start Ms k + 3 + (module_at Ms k).globals → is_fixed start Ms a ≡ false
globals-free start [] k a h l r = absurd (omega arith)
globals-free start (M ∷ Ms) zero a h l r =
    rw (
      le-leb start a (omega arith),
      le-ltb a (start + 3) l,
      lt-leb (start + 3 + M.globals) a r,
    ) (fixed-before (start + data_size M) Ms a (omega arith))
globals-free start (M ∷ Ms) (suc k) a h l r =
    let rest = data-within (start + data_size M) Ms k (omega arith) in
    rw (
      le-leb start a (omega (arith, rest.0)),
      le-ltb a (start + 3) (omega (arith, rest.0)),
      le-leb (start + 3 + M.globals) a (omega (arith, rest.0)),
      le-ltb a (start + data_size M) (omega (arith, rest.0)),
    ) (globals-free (start + data_size M) Ms k a (omega arith) l r)

module _ (Ms : Modules) (q : Registers) (m : List ℕ) (a : ℕ) (h : chained m (frames_start Ms) q.fp q.calls ≡ true) where
  pub free-above : q.fp ≤ a → protects Ms q m a ≡ false
  unfolding protects
  free-above l =
      let f : frames_start Ms ≤ q.fp = chain-start m (frames_start Ms) q.fp q.calls h in
      rw (fixed-behind 0 Ms a (omega arith)) (link-above m (frames_start Ms) q.fp q.calls a h l)

  pub global-free : (k : ℕ) → k < length Ms → globals_start Ms k ≤ a → a < globals_start Ms k + (module_at Ms k).globals
      → protects Ms q m a ≡ false
  unfolding protects
  global-free k below l r =
      let within = data-within 0 Ms k below in
      rw (globals-free 0 Ms k a below l r)
      (link-under m (frames_start Ms) q.fp q.calls a h (omega (arith, within.1)))

  pub framed : frames_start Ms ≤ a → protects Ms q m a ≡ is_link m q.fp q.calls a
  unfolding protects
  framed l = rw (fixed-behind 0 Ms a l)

-- a is at most the rest of mp above n exactly where a + n is at most mp.
pub at-most-less : (a n mp : ℕ) → n ≤ mp → leb a (mp - n) ≡ leb (a + n) mp
at-most-less a n mp h = by (leb a (mp - n)) refl
  where
    by : (t : Bool) → leb a (mp - n) ≡ t → leb a (mp - n) ≡ leb (a + n) mp
    by true e = e ∙ sym (le-leb (a + n) mp (omega (arith, leb-true a (mp - n) e)))
    by false e = e ∙ sym (lt-leb (a + n) mp (omega (arith, leb-false a (mp - n) e)))

pub live_below : (q : Registers) (a n : ℕ) (t : Bool) → t ≡ live q a n → t ≡ true → a + n ≤ q.mp
unfolding live
live_below q a n t e h = leb-true (a + n) q.mp (sym e ∙ h)
