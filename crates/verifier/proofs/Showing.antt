-- The workspace of an accepted walk, its marks taken away, is what the check shows of the lists found: index by index.
use mathlib.Core.Bool.{Bool, true, false}
use mathlib.Core.List.{List, [], ◌∷◌, ◌++◌}
use mathlib.Core.Path.{◌≡◌, ◌∙◌, refl, sym, ap}
use Prim.Native.Nat.{ℕ, zero, suc, ◌+◌, ◌*◌, ◌<◌, ◌≤◌, ◌/◌, ◌%◌}
use native.Mathlib.Nat.{add-zero, zero-add}
use native.Mathlib.Omega.{arith}
use lib.Dec.{ltb}
use lib.ListN.{length, get_or, set, length-set, length-append, get_or-append}
use lib.Seq.{ext_get_or, get_or-set_same, get_or-set_other}
use borrow.Author.Tests.{ltb-true, ltb-false}
use Rattle.words.proofs.Left.{at_or_after}
use Rattle.stackmap.specs.Walk.{State, States, blank, waiting, done}
use Rattle.verifier.specs.Check.{shown_state, shown_from}
use Rattle.verifier.specs.Examine.{unmarked}
use Rattle.verifier.proofs.Coherence.{Shown}

pub unmarked-length : (at n : ℕ) (w : List ℕ) → length (unmarked at n w) ≡ length w
unmarked-length at zero w = refl
unmarked-length at (suc n) w = unmarked-length (at + 1) n (set w (4 * at + 3) 0) ∙ length-set w (4 * at + 3) 0

-- What is no mark of the offsets in question stays.
unmarked-other : (at n : ℕ) (w : List ℕ) (j : ℕ) → ((b : ℕ) → at ≤ b → b < at + n → j ≡ 4 * b + 3 → ⊥)
    → get_or (unmarked at n w) j 0 ≡ get_or w j 0
unmarked-other at zero w j h = refl
unmarked-other at (suc n) w j h =
    unmarked-other (at + 1) n (set w (4 * at + 3) 0) j (λ b l m e. h b (omega arith) (omega arith) e)
    ∙ get_or-set_other w (4 * at + 3) j 0 0 (λ e. h at (omega arith) (omega arith) (omega arith))

pub unmarked-mark : (at n : ℕ) (w : List ℕ) (a : ℕ) → at ≤ a → a < at + n → 4 * a + 3 < length w → get_or (unmarked at n w) (4 * a + 3) 0 ≡ 0
unmarked-mark at zero w a l m r = absurd (omega arith)
unmarked-mark at (suc n) w a l m r =
    at_or_after (λ (j : ℕ). get_or (unmarked (at + 1) n (set w (4 * at + 3) 0)) (4 * j + 3) 0 ≡ 0) at a l
    (unmarked-other (at + 1) n (set w (4 * at + 3) 0) (4 * at + 3) (λ b l m g. omega arith)
    ∙ get_or-set_same w (4 * at + 3) 0 0 (omega arith))
    (λ (h : at < a). unmarked-mark (at + 1) n (set w (4 * at + 3) 0) a (omega arith) (omega arith) (omega (arith, length-set w (4 * at + 3) 0)))

-- Four halfwords for a state, of which two are 0.
state-four : (s : State) → shown_state s ≡ get_or (shown_state s) 0 0 ∷ get_or (shown_state s) 1 0 ∷ 0 ∷ 0 ∷ []
state-four blank = refl
state-four (waiting l) = refl
state-four (done l) = refl

state-length : (s : State) → length (shown_state s) ≡ 4
state-length s = ap length (state-four s)

pub shown-length : (σ : States) (at n : ℕ) → length (shown_from σ at n) ≡ 4 * n
shown-length σ at zero = refl
shown-length σ at (suc n) =
    length-append (shown_state (σ at)) (shown_from σ (at + 1) n)
    ∙ omega (arith, state-length (σ at), shown-length σ (at + 1) n)

-- The k-th halfword of the b-th offset.
state-past : (s : State) (rest : List ℕ) (j : ℕ) → get_or (shown_state s ++ rest) (suc (suc (suc (suc j)))) 0 ≡ get_or rest j 0
state-past s rest j = ap (λ (l : List ℕ). get_or (l ++ rest) (suc (suc (suc (suc j)))) 0) (state-four s)

state-first : (s : State) (rest : List ℕ) (k : ℕ) → k < 4 → get_or (shown_state s ++ rest) k 0 ≡ get_or (shown_state s) k 0
state-first s rest k h = get_or-append (shown_state s) rest 0 k (omega (arith, state-length s))

pub shown-at : (σ : States) (at n b k : ℕ) → b < n → k < 4
    → get_or (shown_from σ at n) (4 * b + k) 0 ≡ get_or (shown_state (σ (at + b))) k 0
shown-at σ at zero b k h l = absurd (omega arith)
shown-at σ at (suc n) zero k h l =
    let y : 4 * 0 + k ≡ k = omega arith in
    rw (y, add-zero at) (state-first (σ at) (shown_from σ (at + 1) n) k l)
shown-at σ at (suc n) (suc b) k h l =
    let y : 4 * suc b + k ≡ suc (suc (suc (suc (4 * b + k)))) = omega arith in
    let z : at + suc b ≡ at + 1 + b = omega arith in
    rw (y, state-past (σ at) (shown_from σ (at + 1) n) (4 * b + k), z) (shown-at σ (at + 1) n b k (omega arith) l)

-- An offset shows its state in the first three of its halfwords, the third being 0.
shown-field : {w : List ℕ} {at : ℕ} {s : State} → Shown w at s → get_or w (4 * at + 2) 0 ≡ 0 → (k : ℕ) → k < 3
    → get_or w (4 * at + k) 0 ≡ get_or (shown_state s) k 0
shown-field {at = at} S z zero h = rw (add-zero (4 * at)) S.height
shown-field S z (suc zero) h = S.origin
shown-field {w} {at} {s} S z (suc (suc zero)) h = z ∙ sym (ap (λ (l : List ℕ). get_or l 2 0) (state-four s))
shown-field S z (suc (suc (suc k))) h = absurd (omega arith)

module _ (σ : States) (w : List ℕ) (n : ℕ) (size : length w ≡ 4 * n) (shown : (at : ℕ) → at < n → Shown w at (σ at))
    (cleared : (at : ℕ) → at < n → get_or w (4 * at + 2) 0 ≡ 0) where
  each : (a k : ℕ) → a < n → k < 4 → (b : Bool) → ltb k 3 ≡ b → get_or (unmarked 0 n w) (4 * a + k) 0 ≡ get_or (shown_state (σ a)) k 0
  each a k h l true e =
      unmarked-other 0 n w (4 * a + k) (λ b x y g. omega (arith, ltb-true k 3 e))
      ∙ shown-field (shown a h) (cleared a h) k (ltb-true k 3 e)
  each a k h l false e =
      let z : k ≡ 3 = omega (arith, ltb-false k 3 e) in
      rw z (unmarked-mark 0 n w a (omega arith) (omega arith) (omega arith) ∙ sym (ap (λ (l : List ℕ). get_or l 3 0) (state-four (σ a))))

  at-index : (i a k : ℕ) → i ≡ 4 * a + k → a < n → k < 4 → get_or (unmarked 0 n w) i 0 ≡ get_or (shown_from σ 0 n) i 0
  at-index i a k e h l =
      rw (e, shown-at σ 0 n a k h l, zero-add a) (each a k h l (ltb k 3) refl)

  pub unmarked-shows : unmarked 0 n w ≡ shown_from σ 0 n
  unmarked-shows =
      ext_get_or 0 (unmarked 0 n w) (shown_from σ 0 n)
      (unmarked-length 0 n w ∙ (size ∙ sym (shown-length σ 0 n)))
      (λ i h. at-index i (i / 4) (i % 4) (omega arith) (omega (arith, unmarked-length 0 n w)) (omega arith))
