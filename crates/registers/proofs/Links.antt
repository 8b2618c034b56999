-- Where the link words of a chain of frames lie: below FP and not below the frames' start, since each frame lies at least its link
-- words below the one that it called.
use Prim.Native.Nat.{ℕ, zero, suc, ◌+◌, ◌-◌, ◌<◌, ◌≤◌}
use mathlib.Core.Path.{◌≡◌, ◌∙◌, refl}
use mathlib.Core.Bool.{Bool, true, false, cond, and-eq-true_iff}
use mathlib.Core.List.{List}
use native.Mathlib.Omega.{arith}
use lib.Dec.{leb}
use borrow.Author.Tests.{eqb-true, leb-true, le-leb, lt-leb, lt-ltb, le-ltb}
use Rattle.words.proofs.Left.{one_left}
use Rattle.registers.specs.Memory.{saved_fp, is_local, link_words, is_link, chained}

-- Two or three.
two-or-three : (t : Bool) → (2 ≤ cond t 2 3) × (cond t 2 3 ≤ 3)
two-or-three true = (omega arith, omega arith)
two-or-three false = (omega arith, omega arith)

pub link-range : (m : List ℕ) (fp : ℕ) → (2 ≤ link_words m fp) × (link_words m fp ≤ 3)
unfolding link_words
link-range m fp = two-or-three (is_local m fp)

pub local-words : (m : List ℕ) (fp : ℕ) → is_local m fp ≡ true → link_words m fp ≡ 2
unfolding link_words
local-words m fp h = rw h

pub external-words : (m : List ℕ) (fp : ℕ) → is_local m fp ≡ false → link_words m fp ≡ 3
unfolding link_words
external-words m fp h = rw h

-- By the number of link words.
pub two-words : (m : List ℕ) (fp : ℕ) → link_words m fp ≡ 2 → is_local m fp ≡ true
unfolding link_words
two-words m fp h = by (is_local m fp) refl
  where
    by : (t : Bool) → is_local m fp ≡ t → is_local m fp ≡ true
    by true e = e
    by false e = let z : ◌≡◌ {A = ℕ} 3 2 = rw e at h in absurd (omega arith)

pub not-two-words : (m : List ℕ) (fp : ℕ) → (link_words m fp ≡ 2 → ⊥) → is_local m fp ≡ false
unfolding link_words
not-two-words m fp h = by (is_local m fp) refl
  where
    by : (t : Bool) → is_local m fp ≡ t → is_local m fp ≡ false
    by true e = absurd (h (rw e))
    by false e = e

-- A frame of a chain, and the rest of the chain below it.
pub chain-end : (m : List ℕ) (start fp : ℕ) → chained m start fp zero ≡ true → fp ≡ start
chain-end m start fp h = eqb-true fp start h

pub chain-lower : (m : List ℕ) (start fp n : ℕ) → chained m start fp (suc n) ≡ true → saved_fp m fp + link_words m fp ≤ fp
chain-lower m start fp n h =
    leb-true _ _ ((and-eq-true_iff (leb (saved_fp m fp + link_words m fp) fp) (chained m start (saved_fp m fp) n)).0 h).0

pub chain-rest : (m : List ℕ) (start fp n : ℕ) → chained m start fp (suc n) ≡ true → chained m start (saved_fp m fp) n ≡ true
chain-rest m start fp n h =
    ((and-eq-true_iff (leb (saved_fp m fp + link_words m fp) fp) (chained m start (saved_fp m fp) n)).0 h).1

pub chain-start : (m : List ℕ) (start fp n : ℕ) → chained m start fp n ≡ true → start ≤ fp
chain-start m start fp zero h = omega (arith, chain-end m start fp h)
chain-start m start fp (suc n) h =
    omega (arith, chain-lower m start fp n h, chain-start m start (saved_fp m fp) n (chain-rest m start fp n h))

-- No link word at or above FP, nor below the frames' start.
pub link-above : (m : List ℕ) (start fp n a : ℕ) → chained m start fp n ≡ true → fp ≤ a → is_link m fp n a ≡ false
link-above m start fp zero a h l = refl
link-above m start fp (suc n) a h l =
    let lower : saved_fp m fp + link_words m fp ≤ fp = chain-lower m start fp n h in
    rw (le-leb fp (a + link_words m fp) (omega arith), le-ltb a fp l)
    (link-above m start (saved_fp m fp) n a (chain-rest m start fp n h) (omega arith))

pub link-under : (m : List ℕ) (start fp n a : ℕ) → chained m start fp n ≡ true → a < start → is_link m fp n a ≡ false
link-under m start fp zero a h l = refl
link-under m start fp (suc n) a h l =
    let lower : saved_fp m fp + link_words m fp ≤ fp = chain-lower m start fp n h in
    let above : start ≤ saved_fp m fp = chain-start m start (saved_fp m fp) n (chain-rest m start fp n h) in
    rw (lt-leb fp (a + link_words m fp) (omega arith)) (link-under m start (saved_fp m fp) n a (chain-rest m start fp n h) l)

-- The words just below a frame are links, and any lower one is sought below it.
pub link_near : (m : List ℕ) (fp n a : ℕ) → a < fp → fp ≤ a + link_words m fp → is_link m fp (suc n) a ≡ true
link_near m fp n a l h = rw (le-leb fp (a + link_words m fp) h, lt-ltb a fp l)

pub link-lower : (m : List ℕ) (fp n a : ℕ) → a + link_words m fp < fp → is_link m fp (suc n) a ≡ is_link m (saved_fp m fp) n a
link-lower m fp n a h = rw (lt-leb fp (a + link_words m fp) h)

-- A walk down the chain: what is left of it decides.
pub record Walked (m : List ℕ) (start fp calls a frame counter : ℕ) : Type 0 where
  pub count : counter ≤ calls
  pub chain : chained m start frame (calls - counter) ≡ true
  pub same : is_link m fp calls a ≡ is_link m frame (calls - counter) a

pub walked_start : (m : List ℕ) (start fp calls a : ℕ) → chained m start fp calls ≡ true → Walked m start fp calls a fp 0
walked_start m start fp calls a h =
    let none : calls - 0 ≡ calls = omega arith in
    record { count = omega arith; chain = rw none h; same = rw none }

module _ (m : List ℕ) (start fp calls a frame counter : ℕ) (w : Walked m start fp calls a frame counter) where
  pub walked-above : frame ≤ a → is_link m fp calls a ≡ false
  walked-above h = w.same ∙ link-above m start frame (calls - counter) a w.chain h

  pub walked_end : calls ≤ counter → is_link m fp calls a ≡ false
  walked_end h =
      let none : calls - counter ≡ zero = omega (arith, w.count) in
      w.same ∙ rw none

  pub walked_near : counter < calls → a < frame → frame ≤ a + link_words m frame → is_link m fp calls a ≡ true
  walked_near h l r = w.same ∙ rw (one_left counter calls h) (link_near m frame (calls - (counter + 1)) a l r)

  pub walked_next : counter < calls → a + link_words m frame < frame → Walked m start fp calls a (saved_fp m frame) (counter + 1)
  walked_next h l =
      record {
        count = omega arith;
        chain = chain-rest m start frame (calls - (counter + 1)) (rw (one_left counter calls h) at w.chain);
        same = w.same ∙ rw (one_left counter calls h) (link-lower m frame (calls - (counter + 1)) a l);
      }
