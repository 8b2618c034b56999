-- A walk down the links of the active calls, without a count: an address past the data areas ends it, since the first frame
-- lies at their end.
use mathlib.Core.Path.{◌≡◌, sym}
use mathlib.Core.Bool.{true, false}
use mathlib.Core.List.{List}
use Prim.Native.Nat.{ℕ, ◌+◌, ◌-◌, ◌≤◌, ◌<◌}
use native.Mathlib.Nat.{lt_of_not-le}
use native.Mathlib.Omega.{arith}
use lib.Dec.{leb}
use lib.ListN.{length}
use borrow.Author.Tests.{lt-leb}
use Rattle.words.proofs.Left.{one_left}
use Rattle.registers.specs.Memory.{saved_fp, link_words, is_link, chained}
use Rattle.registers.proofs.Links.{link-range, Walked, walked_start, walked-above, walked_near, walked_next, chain-end, chain-lower}

-- A walk along the links to `frame`, in memory; how many were passed is not kept in the code.
pub record Walking (m : List ℕ) (start fp calls a frame : ℕ) : Type 0 where
  pub passed : ℕ
  pub walked : Walked m start fp calls a frame passed
  pub within : frame ≤ length m

pub walking_start : (m : List ℕ) (start fp calls a : ℕ) → chained m start fp calls ≡ true → fp ≤ length m
    → Walking m start fp calls a fp
walking_start m start fp calls a c l = record { passed = 0; walked = walked_start m start fp calls a c; within = l }

module _ (m : List ℕ) (start fp calls a frame : ℕ) (low : start ≤ a) (W : Walking m start fp calls a frame) where
  pub walking-above : frame ≤ a → false ≡ is_link m fp calls a
  walking-above l = rw (walked-above m start fp calls a frame W.passed W.walked l)

  module _ (under : a < frame) where
    -- Where no call is left the frame is the first one's, which lies at the start.
    left : W.passed < calls
    left = lt_of_not-le (λ l. omega (arith, low, chain-end m start frame (ended l)))
      where
        ended : calls ≤ W.passed → chained m start frame 0 ≡ true
        ended l =
            let none : calls - W.passed ≡ 0 = omega arith in
            rw none at W.walked.chain

    pub walking-lower : saved_fp m frame + link_words m frame ≤ frame
    walking-lower =
        chain-lower m start frame (calls - (W.passed + 1)) (rw (one_left W.passed calls left) at W.walked.chain)

    pub walking-near : frame ≤ a + link_words m frame → true ≡ is_link m fp calls a
    walking-near l = rw (walked_near m start fp calls a frame W.passed W.walked left under l)

    pub walking-next : a + link_words m frame < frame → Walking m start fp calls a (saved_fp m frame)
    walking-next l =
        record {
          passed = W.passed + 1;
          walked = walked_next m start fp calls a frame W.passed W.walked left l;
          within = omega (arith, walking-lower, W.within);
        }

-- A link word is at most three below its frame.
pub near-far : (m : List ℕ) (frame a : ℕ) → 3 < frame - a → false ≡ leb frame (a + link_words m frame)
near-far m frame a h = sym (lt-leb frame (a + link_words m frame) (omega (arith, link-range m frame)))
