-- What the states of a walk keep: starts alone are given lists, short ones that are reached, and a later state has what an earlier
-- one gave.
use mathlib.Core.Bool.{Bool, true, false, cond}
use mathlib.Core.List.{List}
use mathlib.Core.Option.{Option, none, some}
use mathlib.Core.Path.{◌≡◌, refl, sym, ap, ◌∙◌}
use Prim.Native.Nat.{ℕ, ◌+◌, ◌-◌, ◌≤◌}
use native.Mathlib.Omega.{arith}
use lib.ListN.{length}
use borrow.Author.Tests.{eqb-true}
use Rattle.layout.specs.Cut.{updated, starts_in}
use Rattle.stackmap.specs.Slots.{Slot}
use Rattle.stackmap.specs.Ways.{Subject, Way}
use Rattle.stackmap.specs.StackMap.{Map, GivesEach, gives_none, gives_one, Reached}
use Rattle.stackmap.specs.Walk.{State, blank, waiting, done, States, slots_in, map_of}
use Rattle.stackmap.specs.Theorems.{map_in}
use Rattle.layout.proofs.Updates.{Change, changed, spared, change}
use Rattle.stackmap.proofs.Counts.{undone_in, Stays, done-stays}

-- The procedure in whose region a start lies.
abbrev pub owner : Subject → ℕ → ℕ
owner U at = U.marks at - 1

pub owned : (U : Subject) (p at : ℕ) → starts_in U.marks p at ≡ true → owner U at ≡ p
owned U p at h = omega (arith, eqb-true (U.marks at) (p + 1) h)

-- What is given stays given.
abbrev pub Grows : Map → Map → Type 0
Grows π ρ = (at : ℕ) (l : List Slot) → π at ≡ some l → ρ at ≡ some l

-- What every state has: starts alone are given lists, short ones that are reached.
pub record Placed (U : Subject) (at : ℕ) (l : List Slot) : Type 0 where
  pub start : starts_in U.marks (owner U at) at ≡ true
  pub short : length l ≤ 255
  pub reached : Reached U (owner U at) at l

abbrev pub AllPlaced : Subject → States → Type 0
AllPlaced U σ = (at : ℕ) (l : List Slot) → map_of σ at ≡ some l → Placed U at l

module _ (U : Subject) (p at : ℕ) (l : List Slot) (h : starts_in U.marks p at ≡ true) where
  pub placed : length l ≤ 255 → Reached U p at l → Placed U at l
  placed s r =
      let same : owner U at ≡ p = owned U p at h in
      record { start = rw same h; short = s; reached = rw same r }

  pub placed-reached : Placed U at l → Reached U p at l
  placed-reached P = rw (owned U p at h) at P.reached

-- An offset is given a list: what holds of that one and of those given before holds of all; and what is given stays given, where the
-- offset had none or had that one.
module _ (σ : States) (t : ℕ) (s : State) (k : List Slot) (has : slots_in s ≡ some k) where
  pub told-change : (P : ℕ → List Slot → Type 0) → P t k → ((a : ℕ) (l : List Slot) → map_of σ a ≡ some l → P a l)
      → (a : ℕ) (l : List Slot) → map_of (updated σ t s) a ≡ some l → P a l
  told-change P new old a l e = by (change σ t s a)
    where
      by : Change σ t s a → P a l
      by (changed g q) =
          let same : k ≡ l = cc in
          rw (g, ← same) new
      by (spared g q) = old a l (cc)

  pub grows-change : ((l : List Slot) → map_of σ t ≡ some l → l ≡ k) → Grows (map_of σ) (map_of (updated σ t s))
  grows-change fits a l e = by (change σ t s a)
    where
      by : Change σ t s a → map_of (updated σ t s) a ≡ some l
      by (changed g q) =
          let same : l ≡ k = fits l (rw (← g) e) in
          rw (q, same) has
      by (spared g q) = rw q e

pub placed-update : (U : Subject) (σ : States) (at : ℕ) (l : List Slot) → AllPlaced U σ → Placed U at l
    → AllPlaced U (updated σ at (waiting l))
placed-update U σ at l P p = told-change σ at (waiting l) l refl (Placed U) p P

-- A later state has what an earlier one gave, and its done offsets.
pub record Later (σ τ : States) : Type 0 where
  pub kept : Grows (map_of σ) (map_of τ)
  pub stays : Stays σ τ

pub later-self : (σ : States) → Later σ σ
later-self σ = record { kept = λ at l e. e; stays = λ at l e. e }

pub later-later : {σ τ υ : States} → Later σ τ → Later τ υ → Later σ υ
later-later L K =
    record { kept = λ at l e. K.kept at l (L.kept at l e); stays = λ at l e. K.stays at l (L.stays at l e) }

-- A blank offset is given a list.
pub blank-later : (σ : States) (t : ℕ) (l : List Slot) → σ t ≡ blank → Later σ (updated σ t (waiting l))
blank-later σ t l b =
    record {
      kept = grows-change σ t (waiting l) l refl (λ k e. cc);
      stays = done-stays σ t (waiting l) (ap undone_in b);
    }

-- A list is given, and nothing is done thereby.
pub waiting-early : (σ : States) (t : ℕ) (l : List Slot) → Stays (updated σ t (waiting l)) σ
waiting-early σ t l at k e = by (change σ t (waiting l) at)
  where
    by : Change σ t (waiting l) at → σ at ≡ done k
    by (changed s q) = cc
    by (spared s q) = sym q ∙ e

-- What lies in procedure p's region.
pub in_map : (U : Subject) (p : ℕ) (σ : States) (at : ℕ) (l : List Slot) → starts_in U.marks p at ≡ true → map_of σ at ≡ some l
    → map_in U p σ at ≡ some l
in_map U p σ at l h e = rw h e

pub in_told : (U : Subject) (p : ℕ) (σ : States) (at : ℕ) (l : List Slot) → map_in U p σ at ≡ some l
    → (starts_in U.marks p at ≡ true) × (map_of σ at ≡ some l)
in_told U p σ at l e = by (starts_in U.marks p at) e
  where
    by : (b : Bool) → cond b (map_of σ at) none ≡ some l → (b ≡ true) × (map_of σ at ≡ some l)
    by true g = (refl, g)
    by false g = (cc, cc)

only : {x y : Option (List Slot)} {l : List Slot} (b : Bool) → (x ≡ some l → y ≡ some l) → cond b x none ≡ some l
    → cond b y none ≡ some l
only true f e = f e
only false f e = e

pub gives-later : (U : Subject) (p : ℕ) (σ τ : States) {ws : List Way} → Later σ τ → GivesEach (map_in U p σ) ws
    → GivesEach (map_in U p τ) ws
gives-later U p σ τ L gives_none = gives_none
gives-later U p σ τ L (gives_one {t} {l} e g) =
    gives_one (only (starts_in U.marks p t) (L.kept t l) e) (gives-later U p σ τ L g)
