-- A walk down the chain of frames: what is left of the chain decides.
use Prim.Native.Nat.{ℕ, zero, ◌+◌, ◌-◌, ◌<◌, ◌≤◌}
use mathlib.Core.Path.{◌≡◌, ◌∙◌}
use mathlib.Core.Bool.{true, false}
use mathlib.Core.List.{List}
use native.Mathlib.Omega.{arith}
use lib.Dec.{eqb}
use borrow.Author.Tests.{le-leb, lt-leb}
use Rattle.words.proofs.Left.{one_left}
use Rattle.registers.specs.Memory.{saved_fp, link_words, chained, link_based, links_based}
use Rattle.registers.specs.Modules.{modules_in}
use Rattle.registers.proofs.Links.{chain-lower, chain-rest}

pub record Followed (m : List ℕ) (start fp calls frame counter : ℕ) : Type 0 where
  pub count : counter ≤ calls
  pub same : chained m start fp calls ≡ chained m start frame (calls - counter)

pub followed-start : (m : List ℕ) (start fp calls : ℕ) → Followed m start fp calls fp 0
followed-start m start fp calls =
    let none : calls - 0 ≡ calls = omega arith in
    record { count = omega arith; same = rw none }

module _ (m : List ℕ) (start fp calls frame counter : ℕ) (w : Followed m start fp calls frame counter) where
  pub followed-end : calls ≤ counter → chained m start fp calls ≡ eqb frame start
  followed-end h =
      let none : calls - counter ≡ zero = omega arith in
      w.same ∙ rw none

  pub followed-break : counter < calls → frame < saved_fp m frame + link_words m frame → chained m start fp calls ≡ false
  followed-break h l = w.same ∙ rw (one_left counter calls h, lt-leb (saved_fp m frame + link_words m frame) frame l)

  pub followed-next : counter < calls → saved_fp m frame + link_words m frame ≤ frame → Followed m start fp calls (saved_fp m frame) (counter + 1)
  followed-next h l =
      record { count = omega arith; same = w.same ∙ rw (one_left counter calls h, le-leb (saved_fp m frame + link_words m frame) frame l) }

-- A walk that looks at each link: what is left of the chain decides.
pub record Looking (t m : List ℕ) (start fp calls frame counter : ℕ) : Type 0 where
  pub count : counter ≤ calls
  pub chain : chained m start frame (calls - counter) ≡ true
  pub same : (copy : List ℕ) → links_based (modules_in t copy) m fp calls ≡ links_based (modules_in t copy) m frame (calls - counter)

pub looking-start : (t m : List ℕ) (start fp calls : ℕ) → chained m start fp calls ≡ true → Looking t m start fp calls fp 0
looking-start t m start fp calls h =
    let none : calls - 0 ≡ calls = omega arith in
    record { count = omega arith; chain = rw none h; same = λ copy. rw none }

module _ (t m : List ℕ) (start fp calls frame counter : ℕ) (w : Looking t m start fp calls frame counter) where
  pub looking-end : calls ≤ counter → (copy : List ℕ) → links_based (modules_in t copy) m fp calls ≡ true
  looking-end h copy =
      let none : calls - counter ≡ zero = omega arith in
      w.same copy ∙ rw none

  module _ (h : counter < calls) where
    pub looking-lower : saved_fp m frame + link_words m frame ≤ frame
    looking-lower = chain-lower m start frame (calls - (counter + 1)) (rw (one_left counter calls h) at w.chain)

    pub looking-break : (copy : List ℕ) → link_based (modules_in t copy) m frame ≡ false
        → links_based (modules_in t copy) m fp calls ≡ false
    looking-break copy l = w.same copy ∙ rw (one_left counter calls h, l)

    pub looking-next : ((copy : List ℕ) → link_based (modules_in t copy) m frame ≡ true)
        → Looking t m start fp calls (saved_fp m frame) (counter + 1)
    looking-next l =
        record {
          count = omega arith;
          chain = chain-rest m start frame (calls - (counter + 1)) (rw (one_left counter calls h) at w.chain);
          same = λ copy. w.same copy ∙ rw (one_left counter calls h, l copy);
        }
