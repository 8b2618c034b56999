-- Handing a coherent list on does the same on both sides: its height and topmost label are those of the list that an offset has
-- exactly when it is that list.
use mathlib.Core.Bool.{Bool, true, false, cond, ◌&&◌, true≢false, and-eq-true_iff}
use mathlib.Core.List.{List, [], ◌∷◌}
use mathlib.Core.Option.{Option, none, some}
use mathlib.Core.Path.{◌≡◌, refl, sym, ap, ◌∙◌}
use Prim.Native.Nat.{ℕ, ◌+◌, ◌*◌, ◌<◌, ◌≤◌}
use native.Mathlib.Omega.{arith}
use lib.Dec.{eqb, leb, ltb}
use lib.ListN.{length, get_or}
use borrow.Author.Tests.{eqb-true, eq-eqb, ne_eqb, ltb-true, ltb-false}
use Rattle.layout.specs.Cut.{updated, starts_in}
use Rattle.successors.specs.Successors.{switch_targets}
use Rattle.stackmap.specs.Slots.{Slot, same_slots, top_origin}
use Rattle.stackmap.specs.Ways.{Subject, Way, ◌gets◌, to_all}
use Rattle.stackmap.specs.StackMap.{Map}
use Rattle.stackmap.specs.Walk.{State, blank, waiting, done, States, slots_in, map_of, taken, handed, then_hand, handed_all, passed}
use Rattle.stackmap.specs.Theorems.{WellCut}
use Rattle.words.proofs.Tests.{by-test}
use Rattle.layout.proofs.Updates.{Change, changed, spared, change}
use Rattle.stackmap.proofs.Comparing.{slots-equal, slots_same}
use Rattle.stackmap.proofs.Placing.{Grows, grows-change}
use Rattle.compact_ways.specs.declared.Ways.{Ways}
use Rattle.compact_ways.specs.Ways.{way}
use Rattle.std.specs.Prelude.{None, Some}
use Rattle.verifier.specs.Handing.{Handing, handing, with_list, least, taken_top}
use Rattle.verifier.specs.Handing.{handed_top, then_handing, handed_two, handed_targets, handed_ways}
use Rattle.verifier.proofs.Coherence.{Coherent, Shown, top_of, compact_of, Stands, broken, ended}
use Rattle.verifier.proofs.Coherence.{one, two, many, AllCoherent, no_way, a-way}
use Rattle.verifier.proofs.Pairs.{pair-determines, coherent-grows}
use Rattle.verifier.proofs.Fields.{within-list, list-shown}
use Rattle.verifier.proofs.Keeping.{Sim, sim-change, all-grow}

-- Both broke, or both went on and are still alike.
pub data Parallel (U : Subject) (w : List ℕ) (σ : States) : Handing → Option States → Type 0 where
  both-stop : {v : List ℕ} → length v ≡ length w → Parallel U w σ (handing None v) none
  both_go : {v : List ℕ} {τ : States} {from : ℕ} → length v ≡ length w → Grows (map_of σ) (map_of τ) → Sim U v τ from
      → Parallel U w σ (handing (Some from) v) (some τ)

-- What was reached from a workspace and states that are later than others.
pub parallel-after : {U : Subject} {w v : List ℕ} {σ τ : States} {h : Handing} {o : Option States} → length v ≡ length w
    → Grows (map_of σ) (map_of τ) → Parallel U v τ h o → Parallel U w σ h o
parallel-after K G (both-stop k) = both-stop (k ∙ K)
parallel-after K G (both_go k g X) = both_go (k ∙ K) (λ at l e. g at l (G at l e)) X

pub parallel-then : {U : Subject} {w : List ℕ} {σ : States} (go : ℕ → List ℕ → Handing) (goes : States → Option States)
    {h : Handing}
    {o : Option States} → Parallel U w σ h o
    → ((v : List ℕ) (τ : States) (from : ℕ) → Grows (map_of σ) (map_of τ) → Sim U v τ from → Parallel U v τ (go from v) (goes τ))
    → Parallel U w σ (then_handing go h.answer h.workspace) (then_hand goes o)
parallel-then go goes (both-stop k) next = both-stop k
parallel-then go goes (both_go {v} {τ} {from} k g X) next = parallel-after k g (next v τ from g X)

parallel-last : {U : Subject} {w : List ℕ} {σ : States} (p : ℕ) {h : Handing} {o : Option States} → Parallel U w σ h o
    → Parallel U w σ h (then_hand (handed_all U p []) o)
parallel-last p (both-stop k) = both-stop k
parallel-last p (both_go k g X) = both_go k g X

least_first : (a b : ℕ) → (least a b ≤ a) × (least a b ≤ b)
least_first a b =
    by-test (λ (k : ℕ). (k ≤ a) × (k ≤ b)) (ltb a b) a b (λ e. (omega arith, omega (arith, ltb-true a b e)))
    (λ e. (ltb-false a b e, omega arith))

-- Height and topmost label tell lists apart.
pair_same : (code : List ℕ) (π : Map) (l k : List Slot) → Coherent code π l → Coherent code π k
    → (eqb (length l + 1) (length k + 1) && eqb (top_origin l) (top_origin k)) ≡ same_slots l k
pair_same code π l k c d = by (same_slots l k) refl
  where
    told : (a b : Bool) → eqb (length l + 1) (length k + 1) ≡ a → eqb (top_origin l) (top_origin k) ≡ b → same_slots l k ≡ false
        → (a && b) ≡ false
    told true true e g f =
        let high : length l + 1 ≡ length k + 1 = eqb-true (length l + 1) (length k + 1) e in
        let same : l ≡ k = pair-determines code π l k c d (omega arith) (eqb-true (top_origin l) (top_origin k) g) in
        absurd (true≢false (rw (same, slots_same k) at f))
    told true false e g f = refl
    told false b e g f = refl

    by : (t : Bool) → same_slots l k ≡ t → (eqb (length l + 1) (length k + 1) && eqb (top_origin l) (top_origin k)) ≡ t
    by true e =
        let same : l ≡ k = slots-equal l k e in
        rw (same, eq-eqb (length k + 1) (length k + 1) refl, eq-eqb (top_origin k) (top_origin k) refl)
    by false e = told (eqb (length l + 1) (length k + 1)) (eqb (top_origin l) (top_origin k)) refl refl e

module _ (U : Subject) (S : WellCut U) (p : ℕ) where
  module _ (w : List ℕ) (σ : States) (from : ℕ) (X : Sim U w σ from) (t : ℕ) (k : List Slot)
      (c : Coherent U.code (map_of σ) k) where
    module _ (h : t < length U.code) where
      -- A blank offset takes the list.
      took : σ t ≡ blank
          → Parallel U w σ (handing (Some (least t from)) (with_list w t (length k) (top_origin k))) (some (updated σ t (waiting k)))
      took b =
          both_go (within-list t w (length k) (top_origin k)).long (grows-change σ t (waiting k) k refl none_yet)
          (sim-change t (waiting k) k (least t from) X h (within-list t w (length k) (top_origin k))
          (list-shown t w k (omega (arith, X.held.room))) refl none_yet c (λ at l b e. still at l b e (change σ t (waiting k) at)))
        where
          none_yet : (l : List Slot) → map_of σ t ≡ some l → l ≡ k
          none_yet l e = cc

          still : (at : ℕ) (l : List Slot) → at < least t from → updated σ t (waiting k) at ≡ waiting l → Change σ t (waiting k) at → ⊥
          still at l b e (changed g q) = omega (arith, (least_first t from).0)
          still at l b e (spared g q) = X.clear at l (omega (arith, (least_first t from).1)) (sym q ∙ e)

      -- One that has a list compares.
      met : (l : List Slot) → map_of σ t ≡ some l → get_or w (4 * t) 0 ≡ length l + 1 → get_or w (4 * t + 1) 0 ≡ top_origin l
          → Parallel U w σ (taken_top w (way t (length k) (top_origin k)) from) (cond (same_slots l k) (some σ) none)
      unfolding taken_top
      met l g high low =
          rw (high, low, ne_eqb (length l + 1) 0 (λ e. omega arith), pair_same U.code (map_of σ) l k (X.coherent t l g) c)
          (by (same_slots l k))
        where
          by : (b : Bool) → Parallel U w σ (cond b (handing (Some from) w) (handing None w)) (cond b (some σ) none)
          by true = both_go refl (λ at j e. e) X
          by false = both-stop refl

      offered : (s : State) → σ t ≡ s → Shown w t s
          → Parallel U w σ (taken_top w (way t (length k) (top_origin k)) from) (taken σ t k s)
      unfolding taken_top
      offered blank e shown = rw shown.height (took e)
      offered (waiting l) e shown = met l (ap slots_in e) shown.height shown.origin
      offered (done l) e shown = met l (ap slots_in e) shown.height shown.origin

    one_way : Parallel U w σ (handed_top (length U.code) p (way t (length k) (top_origin k)) from w) (handed U p σ (t gets k))
    unfolding handed_top
    one_way = rw (X.held.marks t) (by (starts_in U.marks p t && leb (length k) 255) refl)
      where
        by : (b : Bool) → starts_in U.marks p t && leb (length k) 255 ≡ b
            → Parallel U w σ (cond b (taken_top w (way t (length k) (top_origin k)) from) (handing None w))
            (cond b (taken σ t k (σ t)) none)
        by true e =
            let h = S.within p t ((and-eq-true_iff (starts_in U.marks p t) (leb (length k) 255)).0 e).0 in
            offered h (σ t) refl (X.held.shown t h)
        by false e = both-stop refl

  -- The same list to every target.
  targets : (l : List Slot) (ts : List ℕ) (w : List ℕ) (σ : States) (from : ℕ) → Sim U w σ from
      → AllCoherent U.code (map_of σ) (to_all ts l)
      → Parallel U w σ (handed_targets (length U.code) p (top_of l) ts from w) (handed_all U p (to_all ts l) σ)
  targets l [] w σ from X no_way = both_go refl (λ at j e. e) X
  targets l (t ∷ ts) w σ from X (a-way c cs) =
      parallel-then (handed_targets (length U.code) p (top_of l) ts) (handed_all U p (to_all ts l)) (one_way w σ from X t l c)
      λ v τ next g Y. targets l ts v τ next Y (all-grow g cs)

  pub ways-alike : (at : ℕ) (w : List ℕ) (σ : States) (from : ℕ) → Sim U w σ from → {x : Ways} {o : Option (List Way)}
      → Stands U.code at x o → ((out : List Way) → o ≡ some out → AllCoherent U.code (map_of σ) out)
      → Parallel U w σ (handed_ways U.code p at x from w) (passed U p σ o)
  unfolding handed_ways handed_two
  ways-alike at w σ from X broken C = both-stop refl
  ways-alike at w σ from X ended C = both_go refl (λ a j e. e) X
  ways-alike at w σ from X (one (t gets l)) C = single (C (t gets l ∷ []) refl)
    where
      single : AllCoherent U.code (map_of σ) (t gets l ∷ [])
          → Parallel U w σ (handed_top (length U.code) p (compact_of (t gets l)) from w) (handed_all U p (t gets l ∷ []) σ)
      single (a-way c no_way) = parallel-last p (one_way w σ from X t l c)
  ways-alike at w σ from X (two (t gets l) (u gets k)) C = double (C (t gets l ∷ u gets k ∷ []) refl)
    where
      double : AllCoherent U.code (map_of σ) (t gets l ∷ u gets k ∷ [])
          → Parallel U w σ (handed_two (length U.code) p (compact_of (t gets l)) (compact_of (u gets k)) from w)
          (handed_all U p (t gets l ∷ u gets k ∷ []) σ)
      double (a-way c (a-way d no_way)) =
          parallel-then (handed_top (length U.code) p (compact_of (u gets k))) (handed_all U p (u gets k ∷ []))
          (one_way w σ from X t l c)
          λ v τ next g Y. parallel-last p (one_way v τ next Y u k (coherent-grows U.code (map_of σ) (map_of τ) k g d))
  ways-alike at w σ from X (many t n l) C =
      targets l (switch_targets U.code at t n) w σ from X (C (to_all (switch_targets U.code at t n) l) refl)
