-- The words of a share while words go and come on top of it: labels lie below where words are put, so they stay.
use mathlib.Core.Bool.{Bool, true, false, cond}
use mathlib.Core.List.{List, [], ◌∷◌}
use mathlib.Core.Option.{Option, none, some, none-ne-some}
use mathlib.Core.Path.{◌≡◌, ◌∙◌, refl}
use Prim.Native.Nat.{ℕ, zero, suc, ◌+◌, ◌≤◌, ◌<◌}
use native.Mathlib.Omega.{arith}
use lib.ListN.{length, get_or}
use lib.Seq.{sets, get_or-set_same}
use Rattle.words.proofs.Sets.{sets-other}
use Rattle.stackmap.specs.Slots.{Slot, word, label, push_words, pop_words, pop_slots}
use Rattle.stackmap.specs.Ways.{label_word}
use Rattle.invariant.specs.Shares.{Holds, holds_none, holds_word, holds_label}

-- None is not some.
pub nothing : {A B : Type 0} (x : A) → none ≡ some x → B
nothing x e = absurd (none-ne-some x e)

-- What is given only where a test holds.
pub only_if : {A : Type 0} (t : Bool) (o : Option A) (x : A) → cond t o none ≡ some x → (t ≡ true) × (o ≡ some x)
only_if true o x e = (refl, e)
only_if false o x e = nothing x e

-- Slots look at the words of their share alone.
pub holds_kept : {code s : List ℕ} {bottom : ℕ} {l : List Slot} (s' : List ℕ)
    → ((i : ℕ) → i < bottom + length l → get_or s' i 0 ≡ get_or s i 0)
    → Holds code s bottom l → Holds code s' bottom l
holds_kept s' k holds_none = holds_none
holds_kept s' k (holds_word h) = holds_word (holds_kept s' (λ i b. k i (omega arith)) h)
holds_kept s' k (holds_label {bottom = bottom} {l = l} e h) =
    holds_label (k (bottom + length l) (omega arith) ∙ e) (holds_kept s' (λ i b. k i (omega arith)) h)

-- Words that are put above a share leave it as it is.
pub holds-below : {code s : List ℕ} {share : ℕ} {l : List Slot} (i : ℕ) (vs : List ℕ) → share + length l ≤ i
    → Holds code s share l
    → Holds code (sets s i vs) share l
holds-below {s = s} i vs h = holds_kept (sets s i vs) (λ j b. sets-other s i vs j (λ low high. omega arith))

-- What lies under n slots, and how many slots there are.
holds-tail : {code s : List ℕ} {share : ℕ} {x : Slot} {l : List Slot} → Holds code s share (x ∷ l) → Holds code s share l
holds-tail (holds_word h) = h
holds-tail (holds_label e h) = h

pub holds-under : {code s : List ℕ} {share : ℕ} (n : ℕ) (l rest : List Slot) → pop_slots n l ≡ some rest → Holds code s share l
    → Holds code s share rest
holds-under zero l rest e h = let same : l ≡ rest = cc in rw same at h
holds-under (suc n) [] rest e h = nothing rest e
holds-under (suc n) (x ∷ l) rest e h = holds-under n l rest e (holds-tail h)

pub popped-size : (n : ℕ) (l rest : List Slot) → pop_slots n l ≡ some rest → length l ≡ n + length rest
popped-size zero l rest e = let same : l ≡ rest = cc in rw same (omega arith)
popped-size (suc n) [] rest e = nothing rest e
popped-size (suc n) (x ∷ l) rest e = omega (arith, popped-size n l rest e)

-- Words that can be popped are slots that can be popped.
pub popped-words : (n : ℕ) (l rest : List Slot) → pop_words n l ≡ some rest → pop_slots n l ≡ some rest
popped-words zero l rest e = e
popped-words (suc n) [] rest e = nothing rest e
popped-words (suc n) (word ∷ l) rest e = popped-words n l rest e
popped-words (suc n) (label origin ∷ l) rest e = nothing rest e

-- Words may be anything.
pub holds-words : {code s : List ℕ} {share : ℕ} {l : List Slot} (n : ℕ) → Holds code s share l
    → Holds code s share (push_words n l)
holds-words zero h = h
holds-words (suc n) h = holds_word (holds-words n h)

-- The word of a label that is put on top.
pub holds-made : {code s : List ℕ} {share : ℕ} {l : List Slot} (x origin : ℕ) → x ≡ label_word code origin
    → share + length l < length s
    → Holds code s share l → Holds code (sets s (share + length l) (x ∷ [])) share (label origin ∷ l)
holds-made {s = s} {share} {l} x origin e room h =
    holds_label (get_or-set_same s (share + length l) x 0 room ∙ e) (holds-below (share + length l) (x ∷ []) (omega arith) h)

-- The word of the label on top.
pub holds-top : {code s : List ℕ} {share origin : ℕ} {l : List Slot} → Holds code s share (label origin ∷ l)
    → get_or s (share + length l) 0 ≡ label_word code origin
holds-top (holds_label e h) = e
