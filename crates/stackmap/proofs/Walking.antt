-- A visit passes on a waiting instruction and leaves the others as they must be; so at its end a walk has passed on whatever it gave,
-- or some region has no map.
use mathlib.Core.List.{List}
use mathlib.Core.Option.{Option, none, some, none-ne-some}
use mathlib.Core.Path.{◌≡◌, refl, sym, ap, ◌∙◌}
use Prim.Native.Nat.{ℕ, zero, suc, ◌≤◌, ◌<◌}
use native.Mathlib.Omega.{arith}
use lib.ListN.{length}
use Rattle.entries.specs.Entries.{entry_count}
use Rattle.layout.specs.Cut.{updated}
use Rattle.stackmap.specs.Slots.{Slot}
use Rattle.stackmap.specs.Ways.{Subject, Way}
use Rattle.stackmap.specs.StackMap.{GivesEach, stepped, ways_at}
use Rattle.stackmap.specs.Walk.{waiting, done, States, passed, visited, Found, visit_next, walk}
use Rattle.stackmap.specs.Theorems.{WellCut, map_in}
use Rattle.layout.proofs.Updates.{Change, changed, spared, change, updated-here}
use Rattle.stackmap.proofs.Counts.{undone_in, undone, undone-drops, undone-waits, done-stays, Seen, clear, sees, seen}
use Rattle.stackmap.proofs.Reaching.{reached-in}
use Rattle.stackmap.proofs.Placing.{owner, Placed, AllPlaced, told-change, grows-change}
use Rattle.stackmap.proofs.Placing.{Later, later-self, later-later, gives-later}
use Rattle.stackmap.proofs.Handing.{Ends, broken, went, ends-then, ends-map, NoMap, Handed, handing}

-- A done offset has passed its list on.
pub record Passed (U : Subject) (σ : States) (at : ℕ) (l : List Slot) : Type 0 where
  pub out : List Way
  pub found : ways_at U (owner U at) at l ≡ some out
  pub gives : GivesEach (map_in U (owner U at) σ) out

pub record Good (U : Subject) (σ : States) : Type 0 where
  pub sane : AllPlaced U σ
  pub passed : (at : ℕ) (l : List Slot) → σ at ≡ done l → Passed U σ at l

abbrev pub Refuted : Subject → Type 0
Refuted U = (p : ℕ) × (p < entry_count U.code) × NoMap U p

record Visited (U : Subject) (σ : States) (at : ℕ) (l : List Slot) (τ : States) : Type 0 where
  good : Good U τ
  later : Later σ τ
  finished : τ at ≡ done l

module _ (U : Subject) (S : WellCut U) (σ : States) (G : Good U σ) (at : ℕ) (l : List Slot) (w : σ at ≡ waiting l) where
  this : Placed U at l
  this = G.sane at l (rw w)

  marked : Later σ (updated σ at (done l))
  marked =
      record { kept = grows-change σ at (done l) l refl (λ k e. cc); stays = done-stays σ at (done l) (ap undone_in w) }

  marked-sane : AllPlaced U (updated σ at (done l))
  marked-sane = told-change σ at (done l) l refl (Placed U) this G.sane

  handed-on : (out : List Way) → ways_at U (owner U at) at l ≡ some out → (τ : States)
      → Handed U (owner U at) out (updated σ at (done l)) τ → Visited U σ at l τ
  handed-on out f τ H =
      record {
        good = record { sane = H.sane; passed = λ a k d. by a k (H.early a k d) (change σ at (done l) a) };
        later = later;
        finished = H.later.stays at l (updated-here σ at (done l));
      }
    where
      later : Later σ τ
      later = later-later marked H.later

      by : (a : ℕ) (k : List Slot) → updated σ at (done l) a ≡ done k → Change σ at (done l) a → Passed U τ a k
      by a k e (changed s q) =
          let list : l ≡ k = cc in
          rw (s, ← list) (record { out = out; found = f; gives = H.gives })
      by a k e (spared s q) =
          let P = G.passed a k (sym q ∙ e) in
          record { out = P.out; found = P.found; gives = gives-later U (owner U a) σ τ later P.gives }

  refuted : NoMap U (owner U at) → Refuted U
  refuted n = (owner U at, S.procedures (owner U at) at this.start, n)

  visit : Ends (Refuted U) (Visited U σ at l) (visited U at l σ)
  unfolding visited
  visit = by (ways_at U (owner U at) at l) refl
    where
      by : (o : Option (List Way)) → ways_at U (owner U at) at l ≡ o
          → Ends (Refuted U) (Visited U σ at l) (passed U (owner U at) (updated σ at (done l)) o)
      by none e = broken (refuted λ π m.
          let o = m.obeys at l (reached-in U (owner U at) π m at l this.reached) in
          none-ne-some o.out (sym e ∙ o.found))
      by (some out) e = ends-map refuted (handed-on out e)
          (handing U (owner U at) out (updated σ at (done l)) marked-sane (λ t k a. stepped this.reached e a))

-- At the end none waits.
pub record Walked (U : Subject) (σ τ : States) : Type 0 where
  pub good : Good U τ
  pub later : Later σ τ
  pub idle : (at : ℕ) (l : List Slot) → τ at ≡ waiting l → ⊥

module _ (U : Subject) (S : WellCut U) where
  -- A waiting offset lies in the code.
  inside : (σ : States) → Good U σ → (at : ℕ) (l : List Slot) → σ at ≡ waiting l → at < length U.code
  inside σ G at l w = S.within (owner U at) at (G.sane at l (rw w)).start

  ended : (σ : States) → Good U σ → ((at : ℕ) (l : List Slot) → at < length U.code → σ at ≡ waiting l → ⊥) → Walked U σ σ
  ended σ G h = record { good = G; later = later-self σ; idle = λ at l w. h at l (inside σ G at l w) w }

  pub walking : (n : ℕ) (σ : States) → Good U σ → undone σ (length U.code) ≤ n → Ends (Refuted U) (Walked U σ) (walk U n σ)
  walking zero σ G h = went (ended σ G λ at l b w. undone-waits σ (length U.code) at l h b w)
  walking (suc n) σ G h = by (walking n) (seen σ 0 (length U.code))
    where
      by : ((τ : States) → Good U τ → undone τ (length U.code) ≤ n → Ends (Refuted U) (Walked U τ) (walk U n τ)) → {f : Found}
          → Seen σ 0 (length U.code) f → Ends (Refuted U) (Walked U σ) (visit_next U (walk U n) σ f)
      by go (clear c) = went (ended σ G λ at l b w. c at l (omega arith) (omega arith) w)
      by go (sees {i} {l} w) = ends-then (walk U n) (visit U S σ G i l w) λ τ T.
          let less = undone-drops σ τ T.later.stays i l l w T.finished (length U.code) (inside σ G i l w) in
          ends-map (λ b. b)
          (λ υ W. record { good = W.good; later = later-later T.later W.later; idle = W.idle })
          (go τ T.good (omega arith))
