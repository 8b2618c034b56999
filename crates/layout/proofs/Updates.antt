-- A function changed at one place is itself at every other, and so is a list that spares some places.
use mathlib.Core.Bool.{Bool, true, false}
use mathlib.Core.List.{List}
use mathlib.Core.Path.{◌≡◌, refl, ◌∙◌}
use Prim.Native.Nat.{ℕ}
use lib.Dec.{eqb}
use lib.ListN.{length, get_or, set, length-set}
use lib.Seq.{get_or-set_other}
use borrow.Author.Tests.{eqb-true, eqb-false, eq-eqb}
use Rattle.layout.specs.Cut.{updated}

pub data Change {A : Type 0} (f : ℕ → A) (at : ℕ) (x : A) (a : ℕ) : Type 0 where
  changed : a ≡ at → updated f at x a ≡ x → Change f at x a
  spared : (a ≡ at → ⊥) → updated f at x a ≡ f a → Change f at x a

pub change : {A : Type 0} (f : ℕ → A) (at : ℕ) (x : A) (a : ℕ) → Change f at x a
change f at x a = by (eqb a at) refl
  where
    by : (b : Bool) → eqb a at ≡ b → Change f at x a
    by true e = changed (eqb-true a at e) (rw e)
    by false e = spared (eqb-false a at e) (rw e)

pub updated-here : {A : Type 0} (f : ℕ → A) (at : ℕ) (x : A) → updated f at x at ≡ x
updated-here f at x = rw (eq-eqb at at refl)

-- v is w but for its places outside of P.
pub record Spares (P : ℕ → Type 0) (w v : List ℕ) : Type 0 where
  pub long : length v ≡ length w
  pub same : (i : ℕ) → P i → get_or v i 0 ≡ get_or w i 0

module _ {P : ℕ → Type 0} where
  pub spares-self : (w : List ℕ) → Spares P w w
  spares-self w = record { long = refl; same = λ i p. refl }

  pub spares_then : {w v u : List ℕ} → Spares P w v → Spares P v u → Spares P w u
  spares_then a b = record { long = b.long ∙ a.long; same = λ i p. b.same i p ∙ a.same i p }

  pub spares-set : (w : List ℕ) (i x : ℕ) → ((j : ℕ) → P j → j ≡ i → ⊥) → Spares P w (set w i x)
  spares-set w i x other = record { long = length-set w i x; same = λ j p. get_or-set_other w i j x 0 (other j p) }
