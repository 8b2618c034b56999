-- The four theorems: the walk finds a map of every region, that of just what is reached, or some region has none.
use mathlib.Core.Bool.{true}
use mathlib.Core.List.{List}
use mathlib.Core.Option.{none, some}
use mathlib.Core.Path.{◌≡◌, refl, subst}
use Prim.Native.Nat.{ℕ, ◌<◌}
use lib.ListN.{length}
use Rattle.entries.specs.Entries.{entry_at, entry_count}
use Rattle.layout.specs.Cut.{starts_in}
use Rattle.stackmap.specs.Slots.{Slot}
use Rattle.stackmap.specs.Ways.{Subject}
use Rattle.stackmap.specs.StackMap.{first_slots, Obeys}
use Rattle.stackmap.specs.Walk.{State, blank, waiting, done, States, slots_in, map_of, first_states, walk_of}
use Rattle.stackmap.specs.Theorems.{WellCut, map_in, FindsMaps, RefutesMaps, FindsReached, HasReached}
use Rattle.stackmap.proofs.Counts.{undone-most}
use Rattle.stackmap.proofs.Reaching.{reached-in}
use Rattle.stackmap.proofs.Placing.{owner, owned, in_map, in_told}
use Rattle.stackmap.proofs.Handing.{Ends, broken, ends-map, ends_some}
use Rattle.stackmap.proofs.Walking.{Good, Refuted, walking}
use Rattle.stackmap.proofs.Entering.{first-entered, first-has}

pub record Final (U : Subject) (σ : States) : Type 0 where
  pub good : Good U σ
  pub idle : (at : ℕ) (l : List Slot) → σ at ≡ waiting l → ⊥
  pub entries : (p : ℕ) → p < entry_count U.code → map_of σ (entry_at U.code p) ≡ some (first_slots U p)

whole : (U : Subject) → WellCut U → Ends (Refuted U) (Final U) (walk_of U)
unfolding walk_of
whole U S =
    let E = first-entered U S in
    ends-map (λ b. b)
    (λ σ W.
    record {
      good = W.good;
      idle = W.idle;
      entries = λ p h. W.later.kept (entry_at U.code p) (first_slots U p) (first-has U S p h);
    })
    (walking U S (length U.code) (first_states U) (record { sane = E.sane; passed = λ at l d. absurd (E.fresh at l d) })
    (undone-most (first_states U) (length U.code)))

ends-none : {Bad : Type 0} {P : States → Type 0} → Ends Bad P none → Bad
ends-none (broken b) = b

pub final : (U : Subject) → WellCut U → (σ : States) → walk_of U ≡ some σ → Final U σ
final U S σ e = ends_some (subst (Ends (Refuted U) (Final U)) e (whole U S))

-- What is given and does not wait is done.
slots-done : (s : State) (l : List Slot) → ((k : List Slot) → s ≡ waiting k → ⊥) → slots_in s ≡ some l → s ≡ done l
slots-done blank l h e = cc
slots-done (waiting k) l h e = absurd (h k refl)
slots-done (done k) l h e = cc

pub finds-maps : FindsMaps
finds-maps U S σ e p h =
    let F = final U S σ e in
    record {
      first = in_map U p σ (entry_at U.code p) (first_slots U p) (S.entries p h) (F.entries p h);
      obeys = λ at l g.
          let t = in_told U p σ at l g in
          obeyed F at l t.0 t.1;
    }
  where
    obeyed : Final U σ → (at : ℕ) (l : List Slot) → starts_in U.marks p at ≡ true → map_of σ at ≡ some l
        → Obeys U p (map_in U p σ) at l
    obeyed F at l s g =
        let same : owner U at ≡ p = owned U p at s in
        let P = F.good.passed at l (slots-done (σ at) l (F.idle at) g) in
        record {
          start = s;
          short = (F.good.sane at l g).short;
          out = P.out;
          found = rw same at P.found;
          gives = rw same at P.gives;
        }

pub refutes-maps : RefutesMaps
refutes-maps U S e = ends-none (subst (Ends (Refuted U) (Final U)) e (whole U S))

pub finds-reached : FindsReached
finds-reached U S σ e at l g =
    let P = (final U S σ e).good.sane at l g in
    (owner U at, S.procedures (owner U at) at P.start, P.reached)

pub has-reached : HasReached
has-reached U p π h at l r = reached-in U p π h at l r
