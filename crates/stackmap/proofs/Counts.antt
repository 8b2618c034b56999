-- How many offsets are not done: a visit lowers it and nothing raises it, so it bounds the visits. The search for a waiting offset
-- finds one that waits, or none does.
use mathlib.Core.List.{List}
use mathlib.Core.Path.{◌≡◌, refl, ap, ◌∙◌}
use Prim.Native.Nat.{ℕ, zero, suc, ◌+◌, ◌≤◌, ◌<◌}
use native.Mathlib.Omega.{arith}
use Rattle.layout.specs.Cut.{updated}
use Rattle.stackmap.specs.Slots.{Slot}
use Rattle.stackmap.specs.Walk.{State, blank, waiting, done, States, Found, nowhere, found, or_later, waiting_from}
use Rattle.layout.proofs.Updates.{Change, changed, spared, change, updated-here}
use Rattle.words.proofs.Left.{at_or_after}

abbrev pub undone_in : State → ℕ
undone_in blank = 1
undone_in (waiting l) = 1
undone_in (done l) = 0

abbrev pub undone : States → ℕ → ℕ
undone σ zero = 0
undone σ (suc n) = undone_in (σ n) + undone σ n

one-most : (s : State) → undone_in s ≤ 1
one-most blank = omega arith
one-most (waiting l) = omega arith
one-most (done l) = omega arith

pub undone-most : (σ : States) (n : ℕ) → undone σ n ≤ n
undone-most σ zero = omega arith
undone-most σ (suc n) = omega (arith, one-most (σ n), undone-most σ n)

-- What is done in one state is done in another.
abbrev pub Stays : States → States → Type 0
Stays σ τ = (at : ℕ) (l : List Slot) → σ at ≡ done l → τ at ≡ done l

module _ (σ τ : States) (stays : Stays σ τ) where
  one_lower : (at : ℕ) (s : State) → σ at ≡ s → undone_in (τ at) ≤ undone_in s
  one_lower at blank e = one-most (τ at)
  one_lower at (waiting l) e = one-most (τ at)
  one_lower at (done l) e = rw (stays at l e) (omega arith)

  undone-lower : (n : ℕ) → undone τ n ≤ undone σ n
  undone-lower zero = omega arith
  undone-lower (suc n) = omega (arith, one_lower n (σ n) refl, undone-lower n)

  pub undone-drops : (at : ℕ) (l k : List Slot) → σ at ≡ waiting l → τ at ≡ done k → (n : ℕ) → at < n → undone τ n < undone σ n
  undone-drops at l k w d zero h = absurd (omega arith)
  undone-drops at l k w d (suc n) h =
      let before : undone_in (σ at) ≡ 1 = rw w in
      let now : undone_in (τ at) ≡ 0 = rw d in
      at_or_after (λ (m : ℕ). undone τ (suc m) < undone σ (suc m)) at n (omega arith) (omega (arith, undone-lower at))
      (λ (b : at < n). omega (arith, undone-drops at l k w d n b, one_lower n (σ n) refl))

-- A change of an offset that is not done leaves those that are.
pub done-stays : (σ : States) (t : ℕ) (x : State) → undone_in (σ t) ≡ 1 → Stays σ (updated σ t x)
done-stays σ t x u a k d = by (change σ t x a)
  where
    by : Change σ t x a → updated σ t x a ≡ done k
    by (changed e q) =
        let here : undone_in (σ t) ≡ 0 = rw (← e, d) in
        absurd (omega arith)
    by (spared e q) = q ∙ d

pub undone-waits : (σ : States) (n at : ℕ) (l : List Slot) → undone σ n ≤ 0 → at < n → σ at ≡ waiting l → ⊥
undone-waits σ n at l z h w =
    let less = undone-drops σ (updated σ at (done l)) (done-stays σ at (done l) (ap undone_in w)) at l l w (updated-here σ at (done l)) n h in
    omega arith

-- An offset that is blank or done does not wait.
pub blank-waits : {s : State} {l : List Slot} → s ≡ blank → s ≡ waiting l → ⊥
blank-waits e g =
    let z : ◌≡◌ {A = ℕ} 0 1 = cc in
    omega arith

pub done-waits : {s : State} {k l : List Slot} → s ≡ done k → s ≡ waiting l → ⊥
done-waits e g =
    let z : ◌≡◌ {A = ℕ} 0 1 = cc in
    omega arith

-- What a search of n offsets from one on finds.
pub data Seen (σ : States) (at n : ℕ) : Found → Type 0 where
  clear : ((i : ℕ) (l : List Slot) → at ≤ i → i < at + n → σ i ≡ waiting l → ⊥) → Seen σ at n nowhere
  sees : {i : ℕ} {l : List Slot} → σ i ≡ waiting l → Seen σ at n (found i l)

seen_next : (σ : States) (at n : ℕ) → ((l : List Slot) → σ at ≡ waiting l → ⊥) → {f : Found} → Seen σ (at + 1) n f
    → Seen σ at (suc n) f
seen_next σ at n free (sees w) = sees w
seen_next σ at n free (clear c) = clear λ i l g h w.
    at_or_after (λ (j : ℕ). σ j ≡ waiting l → ⊥) at i g (free l) (λ (b : at < i). c i l (omega arith) (omega arith)) w

pub seen : (σ : States) (at n : ℕ) → Seen σ at n (waiting_from σ at n)
seen σ at zero = clear λ i l g h w. omega arith
seen σ at (suc n) = by (seen σ (at + 1) n) (σ at) refl
  where
    by : {f : Found} → Seen σ (at + 1) n f → (s : State) → σ at ≡ s → Seen σ at (suc n) (or_later at f s)
    by S blank e = seen_next σ at n (λ l w. blank-waits e w) S
    by S (waiting l) e = sees e
    by S (done k) e = seen_next σ at n (λ l w. done-waits e w) S
