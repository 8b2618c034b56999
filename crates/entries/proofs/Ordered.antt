-- Entries that are sound: they rise in the order 1, 2, .., 0, so that each region begins where the one before ends, has a byte, and
-- ends within the code.
use mathlib.Core.Bool.{Bool, true, false, cond, ◌&&◌, ◌||◌, and-eq-true_iff, false≢true}
use mathlib.Core.Path.{◌≡◌, refl}
use mathlib.Core.List.{List, [], ◌∷◌, ◌++◌}
use Prim.Native.Nat.{ℕ, zero, suc, ◌+◌, ◌-◌, ◌/◌, ◌%◌, ◌<◌, ◌≤◌}
use native.Mathlib.Omega.{arith}
use borrow.Author.Tests.{ltb-true, leb-true, lt-ltb, le-ltb, ne_eqb}
use lib.Dec.{eqb, ltb, leb}
use lib.ListN.{length}
use Rattle.words.specs.Order.{rising_from}
use Rattle.words.proofs.Order.{rising-first}
use Rattle.words.proofs.Left.{at_or_after}
use Rattle.entries.specs.Entries.{entry_at, entry_count, count_sound, entries_from, entries_in_order, entries_sound, region_end}

-- The first entry of n procedures from p on and procedure 0.
abbrev pub first_of : List ℕ → ℕ → ℕ → ℕ
first_of code p zero = entry_at code 0
first_of code p (suc n) = entry_at code p

-- The n procedures from p on are all but procedure 0, and their entries rise from `least` on, procedure 0's last.
pub record Rises (code : List ℕ) (p n least : ℕ) : Type 0 where
  pub from : 1 ≤ p
  pub to : p + n ≡ entry_count code
  pub rising : rising_from (length code) least (entries_from code p n ++ (entry_at code 0 ∷ [])) ≡ true

module _ (code : List ℕ) where
  pub rises-first : (p n least : ℕ) → Rises code p n least → (least ≤ first_of code p n) × (first_of code p n < length code)
  rises-first p zero least r = let f = rising-first (length code) least (entry_at code 0) true r.rising in (f.0, f.1)
  rises-first p (suc n) least r = let f = rising-first (length code) least (entry_at code p) _ r.rising in (f.0, f.1)

  pub rises-rest : (p n least : ℕ) → Rises code p (suc n) least → Rises code (p + 1) n (entry_at code p + 1)
  rises-rest p n least r = record {
    from = omega (arith, r.from);
    to = omega (arith, r.to);
    rising = (rising-first (length code) least (entry_at code p) _ r.rising).2;
  }

  -- A region ends where the next one begins.
  pub region-next : (p n least : ℕ) → Rises code p (suc n) least → region_end code p ≡ first_of code (p + 1) n
  unfolding region_end
  region-next p zero least r =
      let to : p + 1 ≡ entry_count code = r.to in
      rw (ne_eqb p 0 (λ e. omega (arith, r.from, e)), le-ltb (p + 1) (entry_count code) (omega (arith, to)))
  region-next p (suc n) least r =
      rw (ne_eqb p 0 (λ e. omega (arith, r.from, e)), lt-ltb (p + 1) (entry_count code) (omega (arith, r.to)))

  -- An entry lies before the end of its region, and within the code.
  record Entered (q : ℕ) : Type 0 where
    ahead : entry_at code q < region_end code q
    within : entry_at code q < length code

  entered-first : (p n least : ℕ) → Rises code p (suc n) least → Entered p
  entered-first p n least r =
      let next = rises-first (p + 1) n (entry_at code p + 1) (rises-rest p n least r) in
      let e = region-next p n least r in
      record { ahead = omega (arith, next.0, e); within = (rises-first p (suc n) least r).1 }

  entered : (p n least : ℕ) → Rises code p n least → (q : ℕ) → p ≤ q → q < entry_count code → Entered q
  entered p zero least r q l h = absurd (omega (arith, r.to))
  entered p (suc n) least r q l h =
      at_or_after Entered p q l (entered-first p n least r)
      (λ (more : p < q). entered (p + 1) n (entry_at code p + 1) (rises-rest p n least r) q (omega arith) h)

  last_within : (p n least : ℕ) → Rises code p n least → entry_at code 0 < length code
  last_within p zero least r = (rises-first p zero least r).1
  last_within p (suc n) least r = last_within (p + 1) n (entry_at code p + 1) (rises-rest p n least r)

  -- An even number from 4 on, or the one that procedure 0 alone has.
  counted : (single even low high : Bool) → leb 4 (entry_at code 1) ≡ low →
      (single || (even && (low && high))) ≡ true → 1 ≤ cond single 1 (entry_at code 1 / 2)
  counted true even low high e s = omega arith
  counted false true true high e s = omega (arith, leb-true 4 (entry_at code 1) e)
  counted false true false high e s = absurd (false≢true s)
  counted false false low high e s = absurd (false≢true s)

  count-some : count_sound code ≡ true → 1 ≤ entry_count code
  unfolding count_sound entry_count
  count-some s = counted (eqb (entry_at code 0) 2) (eqb (entry_at code 1 % 2) 0) (leb 4 (entry_at code 1)) (leb (entry_at code 1) 512) refl s

-- What sound entries give.
pub record Ordered (code : List ℕ) : Type 0 where
  pub some : 1 ≤ entry_count code
  pub rises : Rises code 1 (entry_count code - 1) 0
  pub starts : (p : ℕ) → p < entry_count code → entry_at code p < region_end code p
  pub ends : (p : ℕ) → region_end code p ≤ length code

module _ (code : List ℕ) (e : entries_sound code ≡ true) where
  sound : (count_sound code ≡ true) × Rises code 1 (entry_count code - 1) 0
  unfolding entries_sound entries_in_order
  sound =
      let both = (and-eq-true_iff (count_sound code) _).0 e in
      (both.0, record { from = omega arith; to = omega (arith, count-some code both.0); rising = both.1 })

  within : (q : ℕ) → q < entry_count code → entry_at code q < length code
  within zero h = last_within code 1 _ 0 sound.1
  within (suc q) h = (entered code 1 _ 0 sound.1 (suc q) (omega arith) h).within

  start : (q : ℕ) → q < entry_count code → entry_at code q < region_end code q
  unfolding region_end
  start zero h = last_within code 1 _ 0 sound.1
  start (suc q) h = (entered code 1 _ 0 sound.1 (suc q) (omega arith) h).ahead

  -- Whichever the next procedure is, there is one.
  region-within : (zero? more : Bool) (p : ℕ) → ltb (p + 1) (entry_count code) ≡ more →
      cond zero? (length code) (entry_at code (cond more (p + 1) 0)) ≤ length code
  region-within true more p t = omega arith
  region-within false true p t = omega (arith, within (p + 1) (ltb-true (p + 1) (entry_count code) t))
  region-within false false p t = omega (arith, within 0 (count-some code sound.0))

  pub ordered : Ordered code
  unfolding region_end
  ordered = record {
    some = count-some code sound.0;
    rises = sound.1;
    starts = start;
    ends = λ p. region-within (eqb p 0) (ltb (p + 1) (entry_count code)) p refl;
  }
