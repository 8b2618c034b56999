-- An instruction finds its words in the share: where the check has a way out, so many slots could be taken off the list, shape by
-- shape.
use mathlib.Core.List.{List, [], ◌∷◌}
use mathlib.Core.Option.{some}
use mathlib.Core.Path.{◌≡◌}
use Prim.Native.Nat.{ℕ, ◌≤◌}
use native.Mathlib.Omega.{arith}
use lib.ListN.{length}
use Rattle.shape.specs.declared.Shape.TheVariants.{Straight, Pop, Jump, JumpC, JumpTF, Iter}
use Rattle.shape.specs.declared.Shape.TheVariants.{Next, Switch, Leave, Call, CallExternal, Enter, Rtn}
use Rattle.stackmap.specs.Slots.{Slot, word, label, pop_words, pop_slots}
use Rattle.stackmap.specs.Ways.{Way, after, is_iter, next_out, leave_out, ways}
use Rattle.invariant.proofs.Invariant.{FindsWords}
use Rattle.invariant.proofs.Shares.{nothing, only_if, popped-size, popped-words}
use Rattle.invariant.proofs.Movement.{taken}

slots-fit : (n : ℕ) (l : List Slot) (f : List Slot → List Way) (out : List Way) → after (pop_slots n l) f ≡ some out → n ≤ length l
slots-fit n l f out e =
    let T = taken (pop_slots n l) f out e in
    omega (arith, popped-size n l T.rest T.found)

words-fit : (n : ℕ) (l : List Slot) (f : List Slot → List Way) (out : List Way) → after (pop_words n l) f ≡ some out → n ≤ length l
words-fit n l f out e =
    let T = taken (pop_words n l) f out e in
    omega (arith, popped-size n l T.rest (popped-words n l T.rest T.found))

-- NEXT: the label and four words.
next_fits : (code : List ℕ) (next : ℕ) (l : List Slot) (out : List Way) → next_out code next l ≡ some out → 5 ≤ length l
next_fits code next [] out e = nothing out e
next_fits code next (word ∷ l) out e = nothing out e
next_fits code next (label origin ∷ l) out e = omega (arith, words-fit 4 l _ out (only_if (is_iter code origin) _ out e).1)

-- LEAVE: the label.
leave_fits : (code : List ℕ) (l : List Slot) (out : List Way) → leave_out code l ≡ some out → 1 ≤ length l
leave_fits code [] out e = nothing out e
leave_fits code (word ∷ l) out e = nothing out e
leave_fits code (label origin ∷ l) out e = omega arith

pub finds-words : FindsWords
unfolding ways
finds-words U p at next (Straight pops pushes) l out e = words-fit pops l _ out e
finds-words U p at next (Pop n) l out e = slots-fit n l _ out e
finds-words U p at next (Jump d) l out e = omega arith
finds-words U p at next (JumpC d) l out e = words-fit 1 l _ out e
finds-words U p at next (JumpTF d) l out e = words-fit 1 l _ out e
finds-words U p at next (Iter d) l out e = words-fit 4 l _ out e
finds-words U p at next Next l out e = next_fits U.code next l out e
finds-words U p at next (Switch t n) l out e = words-fit 1 l _ out e
finds-words U p at next Leave l out e = leave_fits U.code l out e
finds-words U p at next (Call d) l out e = omega arith
finds-words U p at next (CallExternal k d) l out e = omega arith
finds-words U p at next (Enter par) l out e = words-fit par l _ out e
finds-words U p at next Rtn l out e = omega arith
