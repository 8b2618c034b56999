-- The relation that both walks keep: the workspace shows the states, the lists given are coherent and lie in the code, and nothing
-- below an offset waits. It survives a change of one offset that gives it a list, or leaves it the one it has.
use mathlib.Core.List.{List}
use mathlib.Core.Option.{some, none-ne-some}
use mathlib.Core.Path.{◌≡◌, ◌∙◌}
use Prim.Native.Nat.{ℕ, ◌*◌, ◌<◌, ◌≤◌}
use native.Mathlib.Omega.{arith}
use lib.ListN.{length}
use Rattle.layout.specs.Cut.{updated}
use Rattle.layout.specs.Workspace.{marks_in}
use Rattle.stackmap.specs.Slots.{Slot}
use Rattle.stackmap.specs.Ways.{Subject, Way}
use Rattle.stackmap.specs.StackMap.{Map}
use Rattle.stackmap.specs.Walk.{State, blank, waiting, done, States, slots_in, map_of}
use Rattle.layout.proofs.Updates.{Change, changed, spared, change}
use Rattle.stackmap.proofs.Placing.{Grows, told-change, grows-change}
use Rattle.verifier.specs.Check.{shown_state}
use Rattle.verifier.specs.Exact.{Shows}
use Rattle.verifier.proofs.Coherence.{Coherent, Shown, ShowsMap, AllCoherent, no_way, a-way}
use Rattle.verifier.proofs.Pairs.{coherent-grows}
use Rattle.verifier.proofs.Fields.{Within, shown-other, marks-other}

-- The workspace holds the marks and shows the states; what is given lies in the code.
pub record Held (U : Subject) (w : List ℕ) (σ : States) : Type 0 where
  pub room : 4 * length U.code ≤ length w
  pub marks : (at : ℕ) → marks_in w (length U.code) at ≡ U.marks at
  pub shown : (at : ℕ) → at < length U.code → Shown w at (σ at)
  pub inside : (at : ℕ) (l : List Slot) → map_of σ at ≡ some l → at < length U.code

-- Nothing below an offset waits.
abbrev pub Clear : States → ℕ → Type 0
Clear σ from = (at : ℕ) (l : List Slot) → at < from → σ at ≡ waiting l → ⊥

pub record Sim (U : Subject) (w : List ℕ) (σ : States) (from : ℕ) : Type 0 where
  pub held : Held U w σ
  pub coherent : (at : ℕ) (l : List Slot) → map_of σ at ≡ some l → Coherent U.code (map_of σ) l
  pub clear : Clear σ from

-- The lists that are shown.
pub state-shows : (s : State) (l : List Slot) → slots_in s ≡ some l → Shows (shown_state s) 0 l
state-shows blank l e = absurd (none-ne-some l e)
state-shows (waiting k) l e = let z : k ≡ l = cc in record { height = rw z; origin = rw z }
state-shows (done k) l e = let z : k ≡ l = cc in record { height = rw z; origin = rw z }

pub shows-map : {U : Subject} {w : List ℕ} {σ : States} → Held U w σ → ShowsMap w (map_of σ)
shows-map {U} {w} {σ} H at l e =
    let S = H.shown at (H.inside at l e) in
    let s = state-shows (σ at) l e in
    record { height = S.height ∙ s.height; origin = S.origin ∙ s.origin }

-- One offset is changed.
pub held-change : (U : Subject) (w v : List ℕ) (σ : States) (t : ℕ) (s : State) (k : List Slot) → Within t w v
    → t < length U.code
    → slots_in s ≡ some k → Held U w σ → Shown v t s → Held U v (updated σ t s)
held-change U w v σ t s k W h has H S =
    record {
      room = omega (arith, H.room, W.long);
      marks = λ at. marks-other t W (length U.code) at ∙ H.marks at;
      shown = λ at b. shown at b (change σ t s at);
      inside = told-change σ t s k has (λ (at : ℕ) (l : List Slot). at < length U.code) h H.inside;
    }
  where
    shown : (at : ℕ) → at < length U.code → Change σ t s at → Shown v at (updated σ t s at)
    shown at b (changed e q) = rw (q, e) S
    shown at b (spared e q) = rw q (shown-other t W at e (H.shown at b))

pub sim-change : {U : Subject} {w v : List ℕ} {σ : States} {from : ℕ} (t : ℕ) (s : State) (k : List Slot) (next : ℕ)
    → Sim U w σ from
    → t < length U.code → Within t w v → Shown v t s → slots_in s ≡ some k → ((l : List Slot) → map_of σ t ≡ some l → l ≡ k)
    → Coherent U.code (map_of σ) k → Clear (updated σ t s) next → Sim U v (updated σ t s) next
sim-change {U} {w} {v} {σ} t s k next X h W S has fits c clear =
    record {
      held = held-change U w v σ t s k W h has X.held S;
      coherent = λ at l e.
          coherent-grows U.code (map_of σ) (map_of (updated σ t s)) l (grows-change σ t s k has fits)
          (told-change σ t s k has (λ (a : ℕ) (j : List Slot). Coherent U.code (map_of σ) j) c X.coherent at l e);
      clear = clear;
    }

pub all-grow : {code : List ℕ} {π ρ : Map} {out : List Way} → Grows π ρ → AllCoherent code π out → AllCoherent code ρ out
all-grow g no_way = no_way
all-grow {code} {π} {ρ} g (a-way {l = l} c cs) = a-way (coherent-grows code π ρ l g c) (all-grow g cs)
