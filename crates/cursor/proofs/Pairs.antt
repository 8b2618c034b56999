-- The two words of a pair. The one that a cursor reads once it has gone on stands 4 bytes behind, or, where the cursor stayed at the
-- end, both are 0.
use mathlib.Core.Bool.{Bool, true, false, cond}
use mathlib.Core.List.{List}
use mathlib.Core.Path.{◌≡◌, refl, ◌∙◌, sym, ap}
use Prim.Native.Nat.{ℕ, ◌+◌}
use native.Mathlib.Omega.{arith}
use lib.Dec.{ltb}
use lib.ListN.{length}
use borrow.Author.Tests.{ltb-false}
use Rattle.words.specs.Bytes.{word_at}
use Rattle.words.proofs.Bytes.{word-past}
use Rattle.cursor.specs.declared.Pair.{Pair}
use Rattle.cursor.specs.Cursor.{place_after, pair_at}

behind-if : (s : List ℕ) (at : ℕ) (within : Bool) → ltb at (length s) ≡ within → word_at s (cond within (at + 4) at) ≡ word_at s (at + 4)
behind-if s at true e = refl
behind-if s at false e =
    word-past s at (ltb-false at (length s) e) ∙ sym (word-past s (at + 4) (omega (arith, ltb-false at (length s) e)))

word-behind : (s : List ℕ) (at : ℕ) → word_at s (place_after s at) ≡ word_at s (at + 4)
unfolding place_after
word-behind s at = behind-if s at (ltb at (length s)) refl

-- The word at a place, and the one that is read after going on, are the pair.
pub pair_read : (s : List ℕ) (at n m : ℕ) → n ≡ word_at s at → m ≡ word_at s (place_after s at) →
    record { first = n; second = m } ≡ pair_at s at
unfolding pair_at
pair_read s at n m e f = let g = f ∙ word-behind s at in λ i. record { first = e i; second = g i }

pub first_of : (s : List ℕ) (at : ℕ) {p : Pair} → p ≡ pair_at s at → p.first ≡ word_at s at
unfolding pair_at
first_of s at e = ap (λ (p : Pair). p.first) e

pub second-of : (s : List ℕ) (at : ℕ) {p : Pair} → p ≡ pair_at s at → p.second ≡ word_at s (at + 4)
unfolding pair_at
second-of s at e = ap (λ (p : Pair). p.second) e
