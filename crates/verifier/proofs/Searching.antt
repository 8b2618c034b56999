-- Both searches find the lowest waiting offset: the third halfword tells whether an offset waits, and none waits below the offset
-- where the search over the workspace begins.
use mathlib.Core.Bool.{Bool, true, false}
use mathlib.Core.List.{List}
use mathlib.Core.Path.{◌≡◌, refl}
use Prim.Native.Nat.{ℕ, zero, suc, ◌+◌, ◌-◌, ◌<◌, ◌≤◌}
use native.Mathlib.Omega.{arith}
use lib.Dec.{ltb}
use borrow.Author.Count.{below_more}
use borrow.Author.Tests.{ltb-true, ltb-false}
use Rattle.stackmap.specs.Slots.{Slot}
use Rattle.stackmap.specs.Walk.{State, blank, waiting, done, States, Found, nowhere, found, or_later, waiting_from}
use Rattle.stackmap.proofs.Counts.{blank-waits, done-waits}
use Rattle.verifier.specs.Handing.{first_waiting}
use Rattle.verifier.proofs.Coherence.{Shown}
use Rattle.verifier.proofs.Keeping.{Clear}

pub data Finds (size : ℕ) (σ : States) : ℕ → Found → Type 0 where
  finds-none : {at : ℕ} → size ≤ at → Finds size σ at nowhere
  finds-one : {at : ℕ} {l : List Slot} → at < size → σ at ≡ waiting l → Clear σ at → Finds size σ at (found at l)

module _ (size : ℕ) (w : List ℕ) (σ : States) (shown : (at : ℕ) → at < size → Shown w at (σ at)) where
  clear_next : (at : ℕ) → Clear σ at → ((l : List Slot) → σ at ≡ waiting l → ⊥) → Clear σ (at + 1)
  clear_next at c free i l h = below_more (λ (j : ℕ). (k : List Slot) → σ j ≡ waiting k → ⊥) at (λ j b k. c j k b) free i h l

  search-alike : (n at : ℕ) → at + n ≡ size → Clear σ at → Finds size σ (first_waiting w at n) (waiting_from σ at n)
  search-alike zero at e c = finds-none {at = at} (omega arith)
  search-alike (suc n) at e c = by (search-alike n (at + 1) (omega arith)) (σ at) refl (shown at (omega arith))
    where
      by : (Clear σ (at + 1) → Finds size σ (first_waiting w (at + 1) n) (waiting_from σ (at + 1) n)) → (s : State) → σ at ≡ s
          → Shown w at s → Finds size σ (first_waiting w at (suc n)) (or_later at (waiting_from σ (at + 1) n) s)
      by go blank q S = rw S.waits (go (clear_next at c λ l g. blank-waits q g))
      by go (waiting l) q S = rw S.waits (finds-one {at = at} (omega arith) q c)
      by go (done l) q S = rw S.waits (go (clear_next at c λ j g. done-waits q g))

  -- The search over lists begins at 0.
  module _ (from : ℕ) (c : Clear σ from) where
    passes : (at : ℕ) (later : Found) → at < from → (s : State) → σ at ≡ s → or_later at later s ≡ later
    passes at later h blank e = refl
    passes at later h (waiting l) e = absurd (c at l h e)
    passes at later h (done l) e = refl

    skip : (n at : ℕ) → at + n ≡ size → at ≤ from → Finds size σ (first_waiting w from (size - from)) (waiting_from σ at n)
    skip zero at e h =
        let nothing : size - from ≡ 0 = omega arith in
        rw nothing (finds-none {at = from} (omega arith))
    skip (suc n) at e h = by (skip n (at + 1) (omega arith)) (ltb at from) refl
      where
        by : (at + 1 ≤ from → Finds size σ (first_waiting w from (size - from)) (waiting_from σ (at + 1) n)) → (b : Bool)
            → ltb at from ≡ b → Finds size σ (first_waiting w from (size - from)) (waiting_from σ at (suc n))
        by go true q =
            let low : at < from = ltb-true at from q in
            rw (passes at (waiting_from σ (at + 1) n) low (σ at) refl) (go (omega arith))
        by go false q =
            let high : from ≤ at = ltb-false at from q in
            let same : at ≡ from = omega arith in
            let left : size - from ≡ suc n = omega arith in
            rw (left, same) (search-alike (suc n) from (omega arith) c)

    pub finds : Finds size σ (first_waiting w from (size - from)) (waiting_from σ 0 size)
    finds = skip size 0 (omega arith) (omega arith)
