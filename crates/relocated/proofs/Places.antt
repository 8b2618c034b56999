-- Where the library places of a region lie: each behind the first byte of an external instruction that the cut visits. These lie
-- one behind the other, so that the one place within an instruction is its library byte. By induction on the cut.
use mathlib.Core.Bool.{Bool, true, false, cond, ◌||◌, ◌&&◌, false≢true}
use mathlib.Core.List.{List, [], ◌∷◌, ◌++◌}
use mathlib.Core.Path.{◌≡◌, ◌∙◌, refl, sym}
use Prim.Native.Nat.{ℕ, zero, suc, ◌+◌, ◌<◌, ◌≤◌}
use native.Mathlib.Omega.{arith}
use borrow.Author.Tests.{eqb-true, eqb-false, eq-eqb, ne_eqb, ltb-true, lt-ltb}
use lib.Dec.{eqb, ltb}
use Rattle.entries.specs.Entries.{region_end}
use Rattle.opcode.specs.Decode.{decode_at}
use Rattle.opcode.proofs.Found.{ends}
use Rattle.opcode.specs.Decode.{Decoded}
use Rattle.opcode.specs.declared.DecodeError.TheVariants.{Unserved, Past}
use Rattle.std.specs.Prelude.{Err, Ok}
use Rattle.opcode.specs.declared.instruction.Instruction.{Instruction}
use Rattle.module_set.specs.Linked.{has}
use Rattle.relocation.specs.Places.{is_external, library_byte, places_at, places_from}
use Rattle.relocated.proofs.External.{external-long}

-- Cutting procedure p's region from an offset on, in at most n instructions, comes to an offset.
pub data Visits (code : List ℕ) (p : ℕ) : (n from at : ℕ) → Type 0 where
  visits-first : {n from : ℕ} → from < region_end code p → Visits code p (suc n) from from
  visits-later : {n from next at : ℕ} {i : Instruction} → decode_at code (region_end code p) from ≡ Ok (i, next)
      → Visits code p n next at → Visits code p (suc n) from at

-- A place, by the external instruction that it belongs to.
pub record Place (code : List ℕ) (p n from x : ℕ) : Type 0 where
  pub at : ℕ
  pub i : Instruction
  pub next : ℕ
  pub visited : Visits code p n from at
  pub decoded : decode_at code (region_end code p) at ≡ Ok (i, next)
  pub external : is_external i ≡ true
  pub behind : x ≡ at + 1
  pub inside : x < next

pub refuted : (b : Bool) → (b ≡ true → ⊥) → b ≡ false
refuted true h = absurd (h refl)
refuted false h = refl

byte-has : (at : ℕ) (i : Instruction) (rest : List ℕ) (x : ℕ)
    → has (library_byte at i ++ rest) x ≡ ((is_external i && eqb (at + 1) x) || has rest x)
byte-has at i rest x = by (is_external i)
  where
    by : (b : Bool) → has (cond b ((at + 1) ∷ []) [] ++ rest) x ≡ ((b && eqb (at + 1) x) || has rest x)
    by true = refl
    by false = refl

module _ (code : List ℕ) (p : ℕ) where
  pub visits-from : {n from at : ℕ} → Visits code p n from at → (from ≤ at) × (at < region_end code p)
  visits-from (visits-first l) = (omega arith, l)
  visits-from (visits-later {from = from} e v) =
      let rest = visits-from v in
      (omega (arith, (ends code (region_end code p) from e).0, rest.0), rest.1)

  -- A place is one of the library byte, or of the rest.
  place-step : (n at x : ℕ) (b : Bool) (d : Decoded) → ltb at (region_end code p) ≡ b → decode_at code (region_end code p) at ≡ d
      → ((next : ℕ) → has (places_from code p n next) x ≡ true → Place code p n next x)
      → has (cond b (places_at (places_from code p n) at d) []) x ≡ true → Place code p (suc n) at x
  place-step n at x false d b' d' rest e = absurd (false≢true e)
  place-step n at x true (Err Unserved) b' d' rest e = absurd (false≢true e)
  place-step n at x true (Err Past) b' d' rest e = absurd (false≢true e)
  place-step n at x true (Ok (i, next)) b' d' rest e =
      by (is_external i) refl (eqb (at + 1) x) refl (sym (byte-has at i (places_from code p n next) x) ∙ e)
    where
      later : has (places_from code p n next) x ≡ true → Place code p (suc n) at x
      later h =
          let P = rest next h in
          record {
            at = P.at;
            i = P.i;
            next = P.next;
            visited = visits-later d' P.visited;
            decoded = P.decoded;
            external = P.external;
            behind = P.behind;
            inside = P.inside;
          }

      by : (a : Bool) → is_external i ≡ a → (c : Bool) → eqb (at + 1) x ≡ c
          → ((a && c) || has (places_from code p n next) x) ≡ true → Place code p (suc n) at x
      by true a' true c' h =
          let same : at + 1 ≡ x = eqb-true (at + 1) x c' in
          let long : next ≡ at + 3 = external-long code (region_end code p) at i next d' a' in
          record {
            at = at;
            i = i;
            next = next;
            visited = visits-first (ltb-true at (region_end code p) b');
            decoded = d';
            external = a';
            behind = sym same;
            inside = omega arith;
          }
      by true a' false c' h = later h
      by false a' c c' h = later h

  pub place_of : (n from x : ℕ) → has (places_from code p n from) x ≡ true → Place code p n from x
  place_of zero from x e = absurd (false≢true e)
  place_of (suc n) from x e =
      place-step n from x (ltb from (region_end code p)) (decode_at code (region_end code p) from) refl refl
      (λ next. place_of n next x) e

  -- Behind the offset, and before the end of the region.
  pub place-bounds : (n from x : ℕ) → has (places_from code p n from) x ≡ true → (from < x) × (x < region_end code p)
  place-bounds n from x e =
      let P = place_of n from x e in
      let l = ends code (region_end code p) P.at P.decoded in
      (omega (arith, (visits-from P.visited).0, P.behind), omega (arith, P.inside, l.1))

  not_behind : (n from x : ℕ) → x ≤ from → has (places_from code p n from) x ≡ false
  not_behind n from x l = refuted (has (places_from code p n from) x) (λ e. omega (arith, (place-bounds n from x e).0))

  -- One instruction and the rest of its region.
  module _ (n from next x : ℕ) (i : Instruction) (e : decode_at code (region_end code p) from ≡ Ok (i, next)) where
    places-turn :
        has (places_from code p (suc n) from) x ≡ ((is_external i && eqb (from + 1) x) || has (places_from code p n next) x)
    places-turn =
        let l = ends code (region_end code p) from e in
        rw (lt-ltb from (region_end code p) (omega (arith, l.0, l.1)), e) (byte-has from i (places_from code p n next) x)

    places-here : x < next → has (places_from code p (suc n) from) x ≡ (is_external i && eqb x (from + 1))
    places-here l = places-turn ∙ rw (not_behind n next x (omega arith)) (by (is_external i) (eqb (from + 1) x) refl)
      where
        by : (a b : Bool) → eqb (from + 1) x ≡ b → ((a && b) || false) ≡ (a && eqb x (from + 1))
        by true true q = rw (eq-eqb x (from + 1) (sym (eqb-true (from + 1) x q)))
        by true false q = sym (ne_eqb x (from + 1) (λ z. eqb-false (from + 1) x q (sym z)))
        by false b q = refl

    places-later : next ≤ x → has (places_from code p (suc n) from) x ≡ has (places_from code p n next) x
    places-later l = places-turn ∙ by (is_external i) refl
      where
        by : (a : Bool) → is_external i ≡ a
            → ((a && eqb (from + 1) x) || has (places_from code p n next) x) ≡ has (places_from code p n next) x
        by true q =
            let long : next ≡ from + 3 = external-long code (region_end code p) from i next e q in
            rw (ne_eqb (from + 1) x (λ z. omega arith))
        by false q = refl

  -- Within an instruction that is visited the one place is the library byte of an external one.
  pub places-within : {n from at : ℕ} → Visits code p n from at → (i : Instruction) (next x : ℕ)
      → decode_at code (region_end code p) at ≡ Ok (i, next) → at ≤ x → x < next
      → has (places_from code p n from) x ≡ (is_external i && eqb x (at + 1))
  places-within (visits-first {n} {from} h) i next x e l u = places-here n from next x i e u
  places-within (visits-later {n} {from} {next = after} {i = first} f v) i next x e l u =
      places-later n from after x first f (omega (arith, (visits-from v).0)) ∙ places-within v i next x e l u
