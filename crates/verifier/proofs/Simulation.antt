-- The walk over the workspace and the walk over whole lists end alike: both refuse, or both accept and the workspace shows what the
-- lists are. Each visits the lowest waiting offset, with the same fuel.
use mathlib.Core.Bool.{true, false}
use mathlib.Core.List.{List}
use mathlib.Core.Option.{Option, none, some, none-ne-some}
use mathlib.Core.Path.{◌≡◌, refl, sym, ◌∙◌}
use Prim.Native.Nat.{ℕ, zero, suc, ◌+◌, ◌*◌, ◌<◌, ◌≤◌}
use lib.ListN.{length, get_or}
use borrow.Author.Tests.{lt-ltb, le-ltb}
use Rattle.entries.specs.Libraries.{Library}
use Rattle.layout.specs.Cut.{Marks}
use Rattle.layout.specs.Workspace.{marks_in}
use Rattle.stackmap.specs.Slots.{Slot}
use Rattle.stackmap.specs.Ways.{Subject}
use Rattle.stackmap.specs.Walk.{State, blank, waiting, done, States, Found, then_hand, visit_next, walk, first_states, walk_of}
use Rattle.stackmap.specs.Theorems.{WellCut}
use Rattle.stackmap.proofs.Exact.{final}
use Rattle.verifier.specs.Check.{subject_of}
use Rattle.verifier.specs.Handing.{Handing, Walking, walking, then_walk, visit_first, walk_top, walked_top}
use Rattle.verifier.proofs.Coherence.{waits_in, Shown}
use Rattle.verifier.proofs.Keeping.{Held, Sim}
use Rattle.verifier.proofs.Parallel.{Parallel, both-stop, both_go}
use Rattle.verifier.proofs.Searching.{Finds, finds-none, finds-one, finds}
use Rattle.verifier.proofs.Visiting.{visit-alike}
use Rattle.verifier.proofs.Starting.{first_space, start-alike}

-- How both walks end from a workspace.
data Ending (U : Subject) (w : List ℕ) : Walking → Option States → Type 0 where
  both-refuse : {v : List ℕ} → length v ≡ length w → Ending U w (walking false v) none
  both-accept : {v : List ℕ} {τ : States} → length v ≡ length w → Held U v τ → Ending U w (walking true v) (some τ)

ending-after : {U : Subject} {w v : List ℕ} {W : Walking} {o : Option States} → length v ≡ length w → Ending U v W o
    → Ending U w W o
ending-after K (both-refuse k) = both-refuse (k ∙ K)
ending-after K (both-accept k h) = both-accept (k ∙ K) h

ending-then : {U : Subject} {w : List ℕ} {σ : States} (go : ℕ → List ℕ → Walking) (goes : States → Option States) {h : Handing}
    {o : Option States} → Parallel U w σ h o
    → ((v : List ℕ) (τ : States) (from : ℕ) → Sim U v τ from → Ending U v (go from v) (goes τ))
    → Ending U w (then_walk go h.answer h.workspace) (then_hand goes o)
ending-then go goes (both-stop k) next = both-refuse k
ending-then go goes (both_go {v} {τ} {from} k g X) next = ending-after k (next v τ from X)

-- What the workspace is when the walk went through.
pub record Accepted (U : Subject) (σ : States) (W : Walking) : Type 0 where
  pub accepts : W.accepts ≡ true
  pub shown : (at : ℕ) → at < length U.code → Shown W.workspace at (σ at)
  pub cleared : (at : ℕ) → at < length U.code → get_or W.workspace (4 * at + 2) 0 ≡ 0

-- The walk W from workspace w, beside that over whole lists.
pub record Alike (U : Subject) (w : List ℕ) (W : Walking) : Type 0 where
  pub sized : length W.workspace ≡ length w
  pub refused : walk_of U ≡ none → W.accepts ≡ false
  pub accepted : (σ : States) → walk_of U ≡ some σ → Accepted U σ W

third-cleared : (s : State) → ((l : List Slot) → s ≡ waiting l → ⊥) → waits_in s ≡ 0
third-cleared blank free = refl
third-cleared (waiting l) free = absurd (free l refl)
third-cleared (done l) free = refl

ending-alike : (U : Subject) (w : List ℕ) → WellCut U → {W : Walking} (o : Option States) → walk_of U ≡ o → Ending U w W o
    → Alike U w W
ending-alike U w S none e (both-refuse k) =
    record { sized = k; refused = λ g. refl; accepted = λ σ g. absurd (none-ne-some σ (sym e ∙ g)) }
ending-alike U w S (some τ) e (both-accept {v} k H) =
    record {
      sized = k;
      refused = λ g. absurd (none-ne-some τ (sym g ∙ e));
      accepted = λ σ g.
          let same : τ ≡ σ = cc in
          rw (← same) (record {
            accepts = refl;
            shown = H.shown;
            cleared = λ at h. (H.shown at h).waits ∙ third-cleared (τ at) ((final U S τ e).idle at);
          });
    }

walk-alike : (U : Subject) → WellCut U → (n : ℕ) (w : List ℕ) (σ : States) (from : ℕ) → Sim U w σ from
    → Ending U w (walk_top U.code U.libraries U.results n from w) (walk U n σ)
walk-alike U S zero w σ from X = both-accept refl X.held
walk-alike U S (suc n) w σ from X =
    by (walk-alike U S n) (finds (length U.code) w σ X.held.shown from X.clear)
  where
    by : ((v : List ℕ) (τ : States) (next : ℕ) → Sim U v τ next
        → Ending U v (walk_top U.code U.libraries U.results n next v) (walk U n τ))
        → {at : ℕ} {f : Found} → Finds (length U.code) σ at f
        → Ending U w (visit_first U.code U.libraries U.results (walk_top U.code U.libraries U.results n) at w)
        (visit_next U (walk U n) σ f)
    by go (finds-none {at} h) = rw (le-ltb at (length U.code) h) (both-accept refl X.held)
    by go (finds-one {at} {l} h e c) =
        rw (lt-ltb at (length U.code) h)
        (ending-then (walk_top U.code U.libraries U.results n) (walk U n)
        (visit-alike U S w σ from X at l h e c) go)

pub walks-alike : (code : List ℕ) (libraries : List Library) (results : List ℕ) (marks : Marks) (w : List ℕ)
    → WellCut (subject_of code libraries results marks)
    → 4 * length code ≤ length w → ((at : ℕ) → at < length code → Shown w at blank) → ((at : ℕ) → marks_in w (length code) at ≡ marks at)
    → Alike (subject_of code libraries results marks) w (walked_top code libraries results w)
unfolding walked_top walk_of
walks-alike code libraries results marks w S room blanks agree =
    let U = subject_of code libraries results marks in
    let first = start-alike U w S room blanks agree in
    ending-alike U w S (walk_of U) refl
    (ending-after first.0 (walk-alike U S (length code) (first_space code w) (first_states U) 0 first.1))
