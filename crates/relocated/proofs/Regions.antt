-- The library places of all regions: regions lie one behind the other, since sound entries rise, and the entry table lies
-- before them. By induction on the procedures.
use mathlib.Core.Bool.{Bool, true, false, cond, ◌||◌, ◌&&◌, or-false, or_assoc, false≢true, and-eq-true_iff}
use mathlib.Core.List.{List, [], ◌∷◌, ◌++◌}
use mathlib.Core.Path.{◌≡◌, ◌∙◌, refl, sym, ap}
use Prim.Native.Nat.{ℕ, zero, suc, ◌+◌, ◌*◌, ◌-◌, ◌/◌, ◌%◌, ◌<◌, ◌≤◌}
use native.Mathlib.Omega.{arith}
use borrow.Author.Tests.{eqb-true, eqb-false, leb-true}
use lib.Dec.{eqb, leb}
use lib.ListN.{length}
use Rattle.entries.specs.Entries.{entry_at, entry_count, count_sound, entries_sound, region_end}
use Rattle.opcode.specs.Decode.{decode_at}
use Rattle.opcode.proofs.Found.{ends}
use Rattle.std.specs.Prelude.{Ok}
use Rattle.opcode.specs.declared.instruction.Instruction.{Instruction}
use Rattle.entries.proofs.Ordered.{first_of, Rises, rises-first, rises-rest, region-next, ordered}
use Rattle.module_set.specs.Linked.{has}
use Rattle.relocation.specs.Places.{is_external, places_from, places_over, library_places}
use Rattle.relocated.proofs.Places.{Visits, Place, refuted, visits-from, place_of, place-bounds, places-within}

has-append : (xs ys : List ℕ) (x : ℕ) → has (xs ++ ys) x ≡ (has xs x || has ys x)
has-append [] ys x = refl
has-append (y ∷ xs) ys x = rw (has-append xs ys x) (sym (or_assoc (eqb y x) (has xs x) (has ys x)))

-- A place, by its procedure and its instruction.
pub record PlaceIn (code : List ℕ) (x : ℕ) : Type 0 where
  pub p : ℕ
  pub counted : p < entry_count code
  pub place : Place code p (length code) (entry_at code p) x

module _ (code : List ℕ) where
  -- The places of one region, and those of n procedures from p on and procedure 0.
  abbrev places_in : ℕ → List ℕ
  places_in p = places_from code p (length code) (entry_at code p)

  over-turn : (n p x : ℕ) → has (places_over code p (suc n)) x ≡ (has (places_in p) x || has (places_over code (p + 1) n) x)
  over-turn n p x = has-append (places_in p) (places_over code (p + 1) n) x

  place-over : (n p least x : ℕ) → Rises code p n least → 1 ≤ entry_count code → has (places_over code p n) x ≡ true
      → (P : PlaceIn code x) × (1 ≤ P.p → p ≤ P.p)
  place-over zero p least x r some e =
      (record { p = 0; counted = some; place = place_of code 0 (length code) (entry_at code 0) x e }, λ l. absurd (omega arith))
  place-over (suc n) p least x r some e =
      by (has (places_in p) x) refl (sym (over-turn n p x) ∙ e)
      (place-over n (p + 1) (entry_at code p + 1) x (rises-rest code p n least r) some)
    where
      by : (b : Bool) → has (places_in p) x ≡ b → (b || has (places_over code (p + 1) n) x) ≡ true
          → (has (places_over code (p + 1) n) x ≡ true → (P : PlaceIn code x) × (1 ≤ P.p → p + 1 ≤ P.p))
          → (P : PlaceIn code x) × (1 ≤ P.p → p ≤ P.p)
      by true q h rest =
          let place = place_of code p (length code) (entry_at code p) x q in
          (record { p = p; counted = omega (arith, r.to); place = place }, λ l. omega arith)
      by false q h rest = let (P, later) = rest h in (P, λ l. omega (arith, later l))

  -- The first entry is the lowest of theirs.
  first-lowest : (n p least q : ℕ) → Rises code p n least → (1 ≤ q → p ≤ q) → q < entry_count code
      → first_of code p n ≤ entry_at code q
  first-lowest zero p least zero r some h = omega arith
  first-lowest zero p least (suc q) r some h = absurd (omega (arith, some (omega arith), r.to))
  first-lowest (suc n) p least q r some h =
      let rest = rises-rest code p n least r in
      by (eqb q p) refl (rises-first code (p + 1) n (entry_at code p + 1) rest).0
      (λ (k : q ≡ p → ⊥). first-lowest n (p + 1) (entry_at code p + 1) q rest (λ l. omega (arith, k, some l)) h)
    where
      by : (b : Bool) → eqb q p ≡ b → entry_at code p + 1 ≤ first_of code (p + 1) n
          → ((q ≡ p → ⊥) → first_of code (p + 1) n ≤ entry_at code q) → entry_at code p ≤ entry_at code q
      by true e next rest = rw (eqb-true q p e) (omega arith)
      by false e next rest = omega (arith, rest (eqb-false q p e))

  -- So every place lies behind it.
  over-behind : (n p least x : ℕ) → Rises code p n least → has (places_over code p n) x ≡ true → first_of code p n < x
  over-behind n p least x r e =
      let (P, later) = place-over n p least x r (omega (arith, r.from, r.to)) e in
      let place = P.place in
      let from = visits-from code P.p place.visited in
      omega (arith, first-lowest n p least P.p r later P.counted, from.0, place.behind)

  -- Within an instruction of procedure q.
  module _ (q at next x : ℕ) (i : Instruction) (v : Visits code q (length code) (entry_at code q) at)
      (d : decode_at code (region_end code q) at ≡ Ok (i, next)) (l : at ≤ x) (u : x < next) where
    own : has (places_in q) x ≡ (is_external i && eqb x (at + 1))
    own = places-within code q v i next x d l u

    -- The region is the one of procedure p, or lies behind it.
    own_first : (n p least : ℕ) → Rises code p (suc n) least → q ≡ p
        → has (places_over code p (suc n)) x ≡ (is_external i && eqb x (at + 1))
    own_first n p least r e =
        let end : region_end code q ≡ first_of code (p + 1) n = ap (region_end code) e ∙ region-next code p n least r in
        let rest = rises-rest code p n least r in
        let within = ends code (region_end code q) at d in
        let behind : has (places_over code (p + 1) n) x ≡ false =
        refuted (has (places_over code (p + 1) n) x)
        (λ h. omega (arith, over-behind n (p + 1) (entry_at code p + 1) x rest h, end, within.1)) in
        over-turn n p x ∙ rw behind (or-false (has (places_in p) x) ∙ (rw e at own))

    own-later : (n p least : ℕ) → Rises code p (suc n) least → first_of code (p + 1) n ≤ entry_at code q
        → has (places_over code p (suc n)) x ≡ has (places_over code (p + 1) n) x
    own-later n p least r m =
        let end = region-next code p n least r in
        let from = visits-from code q v in
        let before : has (places_in p) x ≡ false =
        refuted (has (places_in p) x)
        (λ h. omega (arith, (place-bounds code p (length code) (entry_at code p) x h).1, end, from.0)) in
        over-turn n p x ∙ rw before

    over-within : (n p least : ℕ) → Rises code p n least → (1 ≤ q → p ≤ q) → q < entry_count code
        → has (places_over code p n) x ≡ (is_external i && eqb x (at + 1))
    over-within zero p least r some h = rw (last q some h r.to) at own
      where
        last : (q : ℕ) → (1 ≤ q → p ≤ q) → q < entry_count code → p + 0 ≡ entry_count code → q ≡ 0
        last zero some h to = refl
        last (suc q) some h to = absurd (omega (arith, some (omega arith)))
    over-within (suc n) p least r some h =
        let rest = rises-rest code p n least r in
        by (eqb q p) refl
        (λ (k : q ≡ p → ⊥). first-lowest n (p + 1) (entry_at code p + 1) q rest (λ l. omega (arith, k, some l)) h)
        (λ (k : q ≡ p → ⊥). over-within n (p + 1) (entry_at code p + 1) rest (λ l. omega (arith, k, some l)) h)
      where
        by : (b : Bool) → eqb q p ≡ b → ((q ≡ p → ⊥) → first_of code (p + 1) n ≤ entry_at code q)
            → ((q ≡ p → ⊥) → has (places_over code (p + 1) n) x ≡ (is_external i && eqb x (at + 1)))
            → has (places_over code p (suc n)) x ≡ (is_external i && eqb x (at + 1))
        by true e first rest = own_first n p least r (eqb-true q p e)
        by false e first rest = let k = eqb-false q p e in own-later n p least r (first k) ∙ rest k

module _ (code : List ℕ) (e : entries_sound code ≡ true) where
  pub place_in : (x : ℕ) → has (library_places code) x ≡ true → PlaceIn code x
  unfolding library_places
  place_in x h = (place-over code (entry_count code - 1) 1 0 x (ordered code e).rises (ordered code e).some h).0

  -- Within an instruction that is visited the one place is the library byte of an external one.
  pub visited-places : (p at next x : ℕ) (i : Instruction) → p < entry_count code
      → Visits code p (length code) (entry_at code p) at → decode_at code (region_end code p) at ≡ Ok (i, next) → at ≤ x → x < next
      → has (library_places code) x ≡ (is_external i && eqb x (at + 1))
  unfolding library_places
  visited-places p at next x i h v d l u =
      over-within code p at next x i v d l u (entry_count code - 1) 1 0 (ordered code e).rises (λ k. k) h

  -- The entry table ends where the first region begins.
  table-end : (single even low high : Bool) → eqb (entry_at code 0) 2 ≡ single → eqb (entry_at code 1 % 2) 0 ≡ even
      → leb 4 (entry_at code 1) ≡ low → (single || (even && (low && high))) ≡ true
      → 2 * cond single 1 (entry_at code 1 / 2) ≡ first_of code 1 (cond single 1 (entry_at code 1 / 2) - 1)
  table-end true even low high a b c s = sym (eqb-true (entry_at code 0) 2 a)
  table-end false true true high a b c s =
      let even : entry_at code 1 % 2 ≡ 0 = eqb-true (entry_at code 1 % 2) 0 b in
      let low : 4 ≤ entry_at code 1 = leb-true 4 (entry_at code 1) c in
      let more : entry_at code 1 / 2 - 1 ≡ suc (entry_at code 1 / 2 - 2) = omega arith in
      rw more (omega arith)
  table-end false true false high a b c s = absurd (false≢true s)
  table-end false false low high a b c s = absurd (false≢true s)

  pub table_before : 2 * entry_count code ≡ first_of code 1 (entry_count code - 1)
  unfolding entries_sound count_sound entry_count
  table_before =
      table-end (eqb (entry_at code 0) 2) (eqb (entry_at code 1 % 2) 0) (leb 4 (entry_at code 1)) (leb (entry_at code 1) 512)
      refl refl refl ((and-eq-true_iff (count_sound code) _).0 e).0

  -- No place lies in the table.
  pub place-behind : (x : ℕ) → has (library_places code) x ≡ true → 2 * entry_count code < x
  unfolding library_places
  place-behind x h = omega (arith, table_before, over-behind code (entry_count code - 1) 1 0 x (ordered code e).rises h)
