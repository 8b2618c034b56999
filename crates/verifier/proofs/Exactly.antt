-- The check accepts exactly the sets that meet the rules, the own module's regions all having maps, gives 15 exactly where
-- one has none, and shows what is reached: where the rules are met the walk decides, and the numbers 0 and 15 say that they
-- are.
use mathlib.Core.List.{List}
use mathlib.Core.Logic.{◌⊎◌, inl, inr, ⊎_elim}
use mathlib.Core.Option.{Option, none, some}
use mathlib.Core.Path.{◌≡◌, ◌∙◌, refl}
use Prim.Native.Nat.{ℕ, suc, ◌+◌, ◌*◌, ◌<◌, ◌≤◌}
use native.Mathlib.Nat.{zero-add}
use native.Mathlib.Omega.{arith}
use lib.ListN.{length, get_or, drop, get_or-append}
use borrow.Author.Tests.{lt-leb, le-ltb}
use Rattle.module_set.specs.Members.{Members, member_at}
use Rattle.stackmap.specs.Slots.{Slot}
use Rattle.stackmap.specs.Theorems.{WellCut, map_in}
use Rattle.stackmap.specs.Walk.{State, States, slots_in, blank, waiting, done, walk_of}
use Rattle.stackmap.proofs.Placing.{in_told}
use Rattle.stackmap.proofs.Exact.{finds-maps, refutes-maps, finds-reached, has-reached}
use Rattle.verifier.specs.Check.{libraries_of, list_number, accepted, walked, verdict_of, concluded}
use Rattle.verifier.specs.Check.{shown_state, shown_from, set_check}
use Rattle.verifier.specs.Exact.{code_at, Ruled, subject, Mapped, Unmapped, Room, Met, AllBytes}
use Rattle.verifier.specs.Exact.{AcceptsExactly, RefusesExactly, ShowsReached, ShowsNoMore}
use Rattle.verifier.proofs.Records.{Listed, a-module, code-bytes}
use Rattle.verifier.proofs.Keeping.{state-shows}
use Rattle.verifier.proofs.Concluding.{sound}
use Rattle.verifier.proofs.Showing.{shown-at, shown-length}
use Rattle.verifier.proofs.Ranges.{list-no-15, codes-range}
use Rattle.verifier.proofs.Ruling.{codes-ruled, ruled-walks}
use Rattle.verifier.proofs.Accepting.{Answers, early, late, answers, Judged, faulty, sound-codes, judgement}

-- A state has a list or is blank.
listed-or-blank : (s : State) → ((l : List Slot) × (slots_in s ≡ some l)) ⊎ (s ≡ blank)
listed-or-blank blank = inr refl
listed-or-blank (waiting l) = inl (l, refl)
listed-or-blank (done l) = inl (l, refl)

module _ (S : Members) (own : ℕ) (w : List ℕ) where
  abbrev code : List ℕ
  code = code_at S own

  ruled-sound : AllBytes S → own < length S → (R : Ruled S) → WellCut (subject S R own)
  ruled-sound b h R =
      sound code (libraries_of S (member_at S own).bytes) (member_at S own).results (R.marks own)
      (a-module S own R.set_sound h).entries (code-bytes (member_at S own).bytes (b own)) (R.are_cut own h)

  no_number : Room S own w → Ruled S → list_number S own (length w) ≡ 0
  unfolding list_number
  no_number room R =
      rw (R.set_sound, lt-leb (length S) own room.0, le-ltb (length w) (4 * length code) room.1, R.lists_are_sound)

  -- Where the rules are met, the walk decides.
  ruled-leaves : Room S own w → (R : Ruled S) → set_check S own w ≡ concluded (length code) w (walked (walk_of (subject S R own)))
  unfolding set_check
  ruled-leaves room R = rw (no_number room R, ruled-walks S R own room.0)

  -- They are met, if the number is 0 or 15.
  ruled : ((set_check S own w).number ≡ 0) ⊎ ((set_check S own w).number ≡ 15) → Room S own w × Ruled S
  ruled either = by (answers S own w)
    where
      late_by : Listed S own (length w) → set_check S own w ≡ concluded (length code) w (verdict_of S own)
          → Judged S own → Room S own w × Ruled S
      late_by L g (faulty n e v) =
          let z : (suc n ≡ 0) ⊎ (suc n ≡ 15) = rw (g, v) at either in
          let r : suc n ≤ 14 = omega (arith, e, codes-range S) in
          absurd (⊎_elim (λ (q : suc n ≡ 0). omega arith) (λ (q : suc n ≡ 15). omega arith) z)
      late_by L g (sound-codes e v) = ((L.inside, L.enough), codes-ruled S L.linkable e)

      by : Answers S own w → Room S own w × Ruled S
      by (early n f g) =
          let z : (suc n ≡ 0) ⊎ (suc n ≡ 15) = rw g at either in
          absurd (⊎_elim (λ (q : suc n ≡ 0). omega arith) (λ (q : suc n ≡ 15). list-no-15 S own (length w) (f ∙ q)) z)
      by (late L g) = late_by L g (judgement S own)

  -- What a number of 0 says.
  record Passed (R : Ruled S) : Type 0 where
    states : States
    walks : walk_of (subject S R own) ≡ some states
    leaves : set_check S own w ≡ concluded (length code) w (accepted states)

  passed : (set_check S own w).number ≡ 0 → (R : Ruled S) → Passed R
  passed e R = by (walk_of (subject S R own)) refl (ruled-leaves (ruled (inl e)).0 R)
    where
      by : (o : Option States) → walk_of (subject S R own) ≡ o → set_check S own w ≡ concluded (length code) w (walked o) → Passed R
      by none f g = let z : ◌≡◌ {A = ℕ} 15 0 = rw g at e in absurd (omega arith)
      by (some σ) f g = record { states = σ; walks = f; leaves = g }

  -- The workspace shows the states found.
  index : {R : Ruled S} (P : Passed R) (i at k : ℕ) → i ≡ 4 * at + k → at < length code → k < 4
      → get_or (set_check S own w).workspace i 0 ≡ get_or (shown_state (P.states at)) k 0
  index P i at k e a b =
      let shown = shown_from P.states 0 (length code) in
      let near : 4 * at + k < length shown = omega (arith, shown-length P.states 0 (length code)) in
      rw (
        e,
        P.leaves,
        get_or-append shown (drop (4 * length code) w) 0 (4 * at + k) near,
        shown-at P.states 0 (length code) at k a b,
        zero-add at,
      )

module _ (S : Members) (own : ℕ) (w : List ℕ) (b : AllBytes S) where
  accepts-only : (set_check S own w).number ≡ 0 → Met Mapped S own w
  accepts-only e =
      let met = ruled S own w (inl e) in
      let U = subject S met.1 own in
      let P = passed S own w e met.1 in
      let sound = ruled-sound S own w b met.0.0 met.1 in
      (met.0, met.1, λ p h. (map_in U p P.states, finds-maps U sound P.states P.walks p h))

  accepts-all : Met Mapped S own w → (set_check S own w).number ≡ 0
  accepts-all (room, R, maps) = rw (ruled-leaves S own w room R) (by (walk_of (subject S R own)) refl)
    where
      by : (o : Option States) → walk_of (subject S R own) ≡ o → (concluded (length (code_at S own)) w (walked o)).number ≡ 0
      by none f =
          let x = refutes-maps (subject S R own) (ruled-sound S own w b room.0 R) f in
          let m = maps x.0 x.1 in
          absurd (x.2 m.0 m.1)
      by (some σ) f = refl

  refuses-only : (set_check S own w).number ≡ 15 → Met Unmapped S own w
  refuses-only e =
      let met = ruled S own w (inr e) in
      (met.0, met.1, by met.0.0 met.1 (walk_of (subject S met.1 own)) refl (ruled-leaves S own w met.0 met.1))
    where
      by : own < length S → (R : Ruled S) (o : Option States) → walk_of (subject S R own) ≡ o
          → set_check S own w ≡ concluded (length (code_at S own)) w (walked o) → Unmapped S R own
      by h R none f g = refutes-maps (subject S R own) (ruled-sound S own w b h R) f
      by h R (some σ) f g = let z : ◌≡◌ {A = ℕ} 0 15 = rw g at e in absurd (omega arith)

  refuses-all : Met Unmapped S own w → (set_check S own w).number ≡ 15
  refuses-all (room, R, N) = rw (ruled-leaves S own w room R) (by (walk_of (subject S R own)) refl)
    where
      by : (o : Option States) → walk_of (subject S R own) ≡ o → (concluded (length (code_at S own)) w (walked o)).number ≡ 15
      by none f = refl
      by (some σ) f =
          let U = subject S R own in
          absurd (N.2 (map_in U N.0 σ) (finds-maps U (ruled-sound S own w b room.0 R) σ f N.0 N.1))

pub accepts-exactly : AcceptsExactly
accepts-exactly S own w b = (accepts-only S own w b, accepts-all S own w b)

pub refuses-exactly : RefusesExactly
refuses-exactly S own w b = (refuses-only S own w b, refuses-all S own w b)

-- What is reached has its list in the states found.
pub shows-reached : ShowsReached
shows-reached S own w b e R p h at l reached =
    let U = subject S R own in
    let W = ruled-sound S own w b (ruled S own w (inl e)).0.0 R in
    let P = passed S own w e R in
    let has = has-reached U p (map_in U p P.states) (finds-maps U W P.states P.walks p h) at l reached in
    let told = in_told U p P.states at l has in
    let near = W.within p at told.0 in
    let s = state-shows (P.states at) l told.1 in
    record {
      height = index S own w P (4 * at) at 0 (omega arith) near (omega arith) ∙ s.height;
      origin = index S own w P (4 * at + 1) at 1 refl near (omega arith) ∙ s.origin;
    }

-- An offset that the states found have no list for shows 0 and 0; what they have is reached.
pub shows_no_more : ShowsNoMore
shows_no_more S own w b e R at h =
    let P = passed S own w e R in
    let W = ruled-sound S own w b (ruled S own w (inl e)).0.0 R in
    ⊎_elim
    (λ (x : (l : List Slot) × (slots_in (P.states at) ≡ some l)).
    let y = finds-reached (subject S R own) W P.states P.walks at x.0 x.1 in
    inl (y.0, x.0, y.1, y.2))
    (λ (x : P.states at ≡ blank).
    inr (
      index S own w P (4 * at) at 0 (omega arith) h (omega arith) ∙ rw x,
      index S own w P (4 * at + 1) at 1 refl h (omega arith) ∙ rw x,
    ))
    (listed-or-blank (P.states at))
