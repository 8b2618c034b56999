-- At first the entries wait with their parameter words, and no other offset has a list: marks name one procedure an offset, so that
-- different procedures have different entries.
use mathlib.Core.List.{List}
use mathlib.Core.Option.{some, none-ne-some}
use mathlib.Core.Path.{◌≡◌, sym, ◌∙◌}
use Prim.Native.Nat.{ℕ, zero, suc, ◌+◌, ◌-◌, ◌≤◌, ◌<◌}
use native.Mathlib.Omega.{arith}
use lib.Dec.{eqb}
use lib.ListN.{length}
use Rattle.words.specs.Bytes.{byte_at, Bytes}
use Rattle.entries.specs.Entries.{entry_at, entry_count}
use Rattle.layout.specs.Cut.{updated}
use Rattle.stackmap.specs.Slots.{Slot}
use Rattle.stackmap.specs.Ways.{Subject, parameters_in}
use Rattle.stackmap.specs.StackMap.{first_slots, entered}
use Rattle.stackmap.specs.Walk.{blank, waiting, done, States, map_of, entries_wait, first_states}
use Rattle.stackmap.specs.Theorems.{WellCut}
use Rattle.words.proofs.Tests.{either}
use Rattle.stackmap.proofs.Pushing.{words-height}
use Rattle.layout.proofs.Updates.{Change, changed, spared, change, updated-here}
use Rattle.words.proofs.Left.{at_or_after}
use Rattle.stackmap.proofs.Placing.{owned, Placed, AllPlaced, placed, placed-update, waiting-early}

-- The parameter words of an entry are a byte.
pub parameters-few : (code : List ℕ) → Bytes code → (p : ℕ) → parameters_in code p ≤ 255
parameters-few code bytes p =
    let b = bytes (entry_at code p + 1) in
    either (λ (k : ℕ). k ≤ 255) (eqb p 0) 0 (byte_at code (entry_at code p + 1)) (omega arith) (omega arith)

-- Procedure p's entry is made to wait.
abbrev pub entering : Subject → ℕ → States → States
entering U p σ = updated σ (entry_at U.code p) (waiting (first_slots U p))

module _ (U : Subject) (S : WellCut U) where
  first_short : (p : ℕ) → length (first_slots U p) ≤ 255
  first_short p = rw (words-height (parameters_in U.code p)) (parameters-few U.code S.bytes p)

  first-placed : (p : ℕ) → p < entry_count U.code → Placed U (entry_at U.code p) (first_slots U p)
  first-placed p h = placed U p (entry_at U.code p) (first_slots U p) (S.entries p h) (first_short p) entered

  -- Procedure q's entry has its list.
  abbrev Has : States → ℕ → Type 0
  Has σ q = map_of σ (entry_at U.code q) ≡ some (first_slots U q)

  has_one : (p : ℕ) (σ : States) → Has (entering U p σ) p
  has_one p σ = rw (updated-here σ (entry_at U.code p) (waiting (first_slots U p)))

  has_kept : (p q : ℕ) (σ : States) → p < entry_count U.code → q < entry_count U.code → Has σ q → Has (entering U p σ) q
  has_kept p q σ g h H = by (change σ (entry_at U.code p) (waiting (first_slots U p)) (entry_at U.code q))
    where
      by : Change σ (entry_at U.code p) (waiting (first_slots U p)) (entry_at U.code q) → Has (entering U p σ) q
      by (changed s e) =
          let one = owned U p (entry_at U.code p) (S.entries p g) in
          let two = owned U q (entry_at U.code q) (S.entries q h) in
          let same : p ≡ q = sym one ∙ rw (← s) two in
          rw same (has_one q σ)
      by (spared s e) = rw e H

  pub record Entered (σ : States) : Type 0 where
    pub sane : AllPlaced U σ
    pub fresh : (at : ℕ) (l : List Slot) → σ at ≡ done l → ⊥

  enter : (p : ℕ) (σ : States) → p < entry_count U.code → Entered σ → Entered (entering U p σ)
  enter p σ h E =
      record {
        sane = placed-update U σ (entry_at U.code p) (first_slots U p) E.sane (first-placed p h);
        fresh = λ at l d. E.fresh at l (waiting-early σ (entry_at U.code p) (first_slots U p) at l d);
      }

  -- What each entry that is made to wait leaves, all leave.
  enter-all : (P : States → Type 0) → ((p : ℕ) (σ : States) → p < entry_count U.code → P σ → P (entering U p σ))
      → (n p : ℕ) (σ : States) → p + n ≤ entry_count U.code → P σ → P (entries_wait U p n σ)
  enter-all P one zero p σ h x = one 0 σ S.counted x
  enter-all P one (suc n) p σ h x = enter-all P one n (p + 1) (entering U p σ) (omega arith) (one p σ (omega arith) x)

  has-zero : (n p : ℕ) (σ : States) → Has (entries_wait U p n σ) 0
  has-zero zero p σ = has_one 0 σ
  has-zero (suc n) p σ = has-zero n (p + 1) (entering U p σ)

  -- Those of n procedures from p on.
  has_all : (n p q : ℕ) (σ : States) → p + n ≤ entry_count U.code → p ≤ q → q < p + n → Has (entries_wait U p n σ) q
  has_all zero p q σ h a b = absurd (omega arith)
  has_all (suc n) p q σ h a b =
      at_or_after (Has (entries_wait U p (suc n) σ)) p q a
      (enter-all (λ (τ : States). Has τ p) (λ o τ g. has_kept o p τ g (omega arith)) n (p + 1) (entering U p σ) (omega arith)
      (has_one p σ))
      (λ (more : p < q). has_all n (p + 1) q (entering U p σ) (omega arith) (omega arith) (omega arith))

  pub first-entered : Entered (first_states U)
  first-entered =
      enter-all Entered enter (entry_count U.code - 1) 1 (λ at. blank) (omega (arith, S.counted))
      (record {
        sane = λ at l e. absurd (none-ne-some l e);
        fresh = λ at l e. let z : ◌≡◌ {A = ℕ} 0 1 = cc in absurd (omega arith);
      })

  pub first-has : (q : ℕ) → q < entry_count U.code → Has (first_states U) q
  first-has zero h = has-zero (entry_count U.code - 1) 1 (λ at. blank)
  first-has (suc q) h =
      has_all (entry_count U.code - 1) 1 (suc q) (λ at. blank) (omega (arith, S.counted)) (omega arith) (omega arith)
