-- Handing out the ways of a reached instruction: each is then given in its region, or the region has no map. What is given stays
-- given and is reached.
use mathlib.Core.Bool.{Bool, true, false, cond, ◌&&◌, true≢false, and-eq-true_iff}
use mathlib.Core.List.{List, [], ◌∷◌}
use mathlib.Core.Option.{Option, none, some}
use mathlib.Core.Path.{◌≡◌, refl, ap, ◌∙◌}
use Prim.Native.Nat.{ℕ, ◌≤◌}
use lib.Dec.{leb}
use lib.ListN.{length}
use borrow.Author.Tests.{leb-true, le-leb}
use Rattle.layout.specs.Cut.{updated, starts_in}
use Rattle.stackmap.specs.Slots.{Slot, same_slots}
use Rattle.stackmap.specs.Ways.{Subject, Way, ◌gets◌}
use Rattle.stackmap.specs.StackMap.{Map, GivesEach, gives_none, gives_one, IsMap, Among, here, there, Reached}
use Rattle.stackmap.specs.Walk.{State, blank, waiting, done, States, map_of, taken, then_hand, handed_all}
use Rattle.stackmap.specs.Theorems.{map_in}
use Rattle.layout.proofs.Updates.{updated-here}
use Rattle.stackmap.proofs.Comparing.{slots-equal, slots_same}
use Rattle.stackmap.proofs.Counts.{Stays}
use Rattle.stackmap.proofs.Reaching.{reached-in}
use Rattle.stackmap.proofs.Placing.{AllPlaced, placed, placed-reached, placed-update, Later, later-self}
use Rattle.stackmap.proofs.Placing.{later-later, blank-later, waiting-early, in_map, gives-later}

-- A computation with failure: what it tells when it breaks, and of where it ends.
pub data Ends (Bad : Type 0) (Good : States → Type 0) : Option States → Type 0 where
  broken : Bad → Ends Bad Good none
  went : {σ : States} → Good σ → Ends Bad Good (some σ)

pub ends-then : {Bad : Type 0} {P Q : States → Type 0} (go : States → Option States) {r : Option States} → Ends Bad P r
    → ((σ : States) → P σ → Ends Bad Q (go σ)) → Ends Bad Q (then_hand go r)
ends-then go (broken b) k = broken b
ends-then go (went {σ} g) k = k σ g

pub ends-map : {Bad Bad' : Type 0} {P Q : States → Type 0} {r : Option States} → (Bad → Bad') → ((σ : States) → P σ → Q σ)
    → Ends Bad P r → Ends Bad' Q r
ends-map f g (broken b) = broken (f b)
ends-map f g (went {σ} h) = went (g σ h)

pub ends_some : {Bad : Type 0} {Good : States → Type 0} {σ : States} → Ends Bad Good (some σ) → Good σ
ends_some (went g) = g

-- No map of a region.
abbrev pub NoMap : Subject → ℕ → Type 0
NoMap U p = (π : Map) → IsMap U p π → ⊥

pub record Handed (U : Subject) (p : ℕ) (ws : List Way) (σ τ : States) : Type 0 where
  pub sane : AllPlaced U τ
  pub later : Later σ τ
  pub early : Stays τ σ
  pub gives : GivesEach (map_in U p τ) ws

module _ (U : Subject) (p : ℕ) (σ : States) (P : AllPlaced U σ) (t : ℕ) (l : List Slot) (r : Reached U p t l) where
  module _ (h : starts_in U.marks p t ≡ true) where
    had : map_of σ t ≡ some l → Handed U p (t gets l ∷ []) σ σ
    had e = record { sane = P; later = later-self σ; early = λ at k d. d; gives = gives_one (in_map U p σ t l h e) gives_none }

    took : length l ≤ 255 → σ t ≡ blank → Handed U p (t gets l ∷ []) σ (updated σ t (waiting l))
    took s e =
        record {
          sane = placed-update U σ t l P (placed U p t l h s r);
          later = blank-later σ t l e;
          early = waiting-early σ t l;
          gives = gives_one (in_map U p (updated σ t (waiting l)) t l h (rw (updated-here σ t (waiting l)))) gives_none;
        }

    met : (k : List Slot) → map_of σ t ≡ some k → (b : Bool) → same_slots k l ≡ b
        → Ends (NoMap U p) (Handed U p (t gets l ∷ []) σ) (cond b (some σ) none)
    met k e true q = went (had (e ∙ ap some (slots-equal k l q)))
    met k e false q = broken λ π m.
        let one = reached-in U p π m t l r in
        let two = reached-in U p π m t k (placed-reached U p t k h (P t k e)) in
        let same : k ≡ l = cc in
        true≢false (rw (same, slots_same l) at q)

    offered : length l ≤ 255 → (s : State) → σ t ≡ s → Ends (NoMap U p) (Handed U p (t gets l ∷ []) σ) (taken σ t l s)
    offered s blank e = went (took s e)
    offered s (waiting k) e = met k (cc) (same_slots k l) refl
    offered s (done k) e = met k (cc) (same_slots k l) refl

  one : (b : Bool) → starts_in U.marks p t && leb (length l) 255 ≡ b
      → Ends (NoMap U p) (Handed U p (t gets l ∷ []) σ) (cond b (taken σ t l (σ t)) none)
  one true e =
      let b = (and-eq-true_iff (starts_in U.marks p t) (leb (length l) 255)).0 e in
      offered b.0 (leb-true (length l) 255 b.1) (σ t) refl
  one false e = broken λ π m.
      let o = m.obeys t l (reached-in U p π m t l r) in
      true≢false (rw (o.start, le-leb (length l) 255 o.short) at e)

gives-first : {π : Map} {w : Way} {ws : List Way} → GivesEach π (w ∷ []) → GivesEach π ws → GivesEach π (w ∷ ws)
gives-first (gives_one e g) h = gives_one e h

-- One way, and the others after it.
joined : (U : Subject) (p : ℕ) (w : Way) (ws : List Way) (σ τ υ : States) → Handed U p (w ∷ []) σ τ → Handed U p ws τ υ
    → Handed U p (w ∷ ws) σ υ
joined U p w ws σ τ υ H K =
    record {
      sane = K.sane;
      later = later-later H.later K.later;
      early = λ at l e. H.early at l (K.early at l e);
      gives = gives-first (gives-later U p τ υ K.later H.gives) K.gives;
    }

pub handing : (U : Subject) (p : ℕ) (ws : List Way) (σ : States) → AllPlaced U σ
    → ((t : ℕ) (l : List Slot) → Among t l ws → Reached U p t l)
    → Ends (NoMap U p) (Handed U p ws σ) (handed_all U p ws σ)
handing U p [] σ P R = went (record { sane = P; later = later-self σ; early = λ at l e. e; gives = gives_none })
handing U p (t gets l ∷ ws) σ P R =
    ends-then (handed_all U p ws) (one U p σ P t l (R t l here) (starts_in U.marks p t && leb (length l) 255) refl)
    (λ τ H. ends-map (λ b. b) (λ υ K. joined U p (t gets l) ws σ τ υ H K)
    (handing U p ws τ H.sane (λ s k a. R s k (there a))))
