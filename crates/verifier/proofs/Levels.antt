-- What each operation on a coherent list of slots does to its height and topmost label, and that a workspace which shows the map tells
-- the height of that label and the origin under it: the label lies on the list that its origin found.
use mathlib.Core.Bool.{true, false, ◌&&◌, and-false}
use mathlib.Core.List.{List, [], ◌∷◌}
use mathlib.Core.Option.{Option, none, some}
use mathlib.Core.Path.{◌≡◌, refl}
use Prim.Native.Nat.{ℕ, zero, suc, ◌+◌, ◌-◌, ◌≤◌, ◌<◌}
use native.Mathlib.Omega.{arith}
use native.Mathlib.Numerals.{add-one}
use lib.Dec.{eqb, eqb-suc-zero, eqb-zero-suc, eqb-suc-suc}
use lib.ListN.{length}
use borrow.Author.Tests.{eqb-true, eq-eqb, ne_eqb}
use Rattle.words.specs.Bytes.{byte_at}
use Rattle.stackmap.specs.Slots.{Slot, word, label, pop_words, is_words, top_origin}
use Rattle.stackmap.specs.Ways.{is_iter, is_switch}
use Rattle.stackmap.specs.StackMap.{Map}
use Rattle.compact.specs.Tops.{label_height, origin_under, labelled, lowered}
use Rattle.verifier.proofs.Coherence.{Lies, on-iter, on_switch, Coherent, on-nothing, on_word, on-label, ShowsMap, top_of}

-- The height up to and with the topmost label.
abbrev pub level : List Slot → ℕ
level [] = 0
level (word ∷ l) = level l
level (label m ∷ l) = suc (length l)

level-most : (l : List Slot) → level l ≤ length l
level-most [] = omega arith
level-most (word ∷ l) = omega (arith, level-most l)
level-most (label m ∷ l) = omega arith

-- What popping words gives: a rest with the same topmost label, or the label or the end comes first.
pub data Popped (n : ℕ) (l : List Slot) : Option (List Slot) → Type 0 where
  stuck : length l < n + level l → Popped n l none
  popped : (rest : List Slot) → length l ≡ n + length rest → top_origin l ≡ top_origin rest → level l ≤ length rest
      → Popped n l (some rest)

popped-word : {n : ℕ} {l : List Slot} {o : Option (List Slot)} → Popped n l o → Popped (suc n) (word ∷ l) o
popped-word (stuck h) = stuck (omega arith)
popped-word (popped rest h o v) = popped rest (omega arith) o v

pub popping : (n : ℕ) (l : List Slot) → Popped n l (pop_words n l)
popping zero l = popped l (omega arith) refl (level-most l)
popping (suc n) [] = stuck (omega arith)
popping (suc n) (word ∷ l) = popped-word (popping n l)
popping (suc n) (label m ∷ l) = stuck (omega arith)

pub words-test : (n : ℕ) (l : List Slot) → is_words n l ≡ eqb (length l) n && eqb (top_origin l) 0
words-test zero [] = refl
words-test zero (x ∷ l) = rw (eqb-suc-zero (length l))
words-test (suc n) [] = rw (eqb-zero-suc n)
words-test (suc n) (word ∷ l) = rw (eqb-suc-suc (length l) n) (words-test n l)
words-test (suc n) (label m ∷ l) = rw (ne_eqb (m + 1) 0 (λ e. omega arith), and-false (eqb (suc (length l)) (suc n)))

pub iter-not-switch : (code : List ℕ) (m : ℕ) → is_iter code m ≡ true → is_switch code m ≡ false
iter-not-switch code m e =
    let b : byte_at code m ≡ 0xE0 = eqb-true (byte_at code m) 0xE0 e in
    rw b

module _ {code w : List ℕ} {π : Map} (S : ShowsMap w π) where
  lies-height : (m : ℕ) (l : List Slot) → Lies code π m l → label_height code w (suc m) ≡ suc (length l)
  lies-height m l (on-iter a e r p) = rw (a, (S m l e).height) (omega arith)
  lies-height m l (on_switch a b e) = rw (a, (S m (word ∷ l) e).height) (omega arith)

  lies-origin : (m : ℕ) (l : List Slot) → Lies code π m l → origin_under w (suc m) ≡ top_origin l
  lies-origin m l (on-iter a e r p) = (S m l e).origin
  lies-origin m l (on_switch a b e) = (S m (word ∷ l) e).origin

  pub at_level : (l : List Slot) → Coherent code π l → label_height code w (top_origin l) ≡ level l
  at_level l on-nothing = refl
  at_level l (on_word {l = r} c) = at_level r c
  at_level l (on-label {origin = m} {l = r} L c) = rw (add-one m) (lies-height m r L)

  pub labelled-word : (l : List Slot) → Coherent code π l → labelled code w (top_of (word ∷ l)) ≡ false
  unfolding labelled
  labelled-word l c = rw (at_level l c) (ne_eqb (level l) (suc (length l)) (λ e. omega (arith, level-most l)))

  pub labelled-label : (m : ℕ) (l : List Slot) → Lies code π m l → labelled code w (top_of (label m ∷ l)) ≡ true
  unfolding labelled
  labelled-label m l L = rw (add-one m, lies-height m l L) (eq-eqb (suc (length l)) (suc (length l)) refl)

  pub lowered-word : (l : List Slot) → Coherent code π l → lowered code w (top_of (word ∷ l)) ≡ top_of l
  unfolding lowered
  lowered-word l c =
      let h : suc (length l) - 1 ≡ length l = omega arith in
      rw (labelled-word l c, h)

  pub lowered-label : (m : ℕ) (l : List Slot) → Lies code π m l → lowered code w (top_of (label m ∷ l)) ≡ top_of l
  unfolding lowered
  lowered-label m l L =
      let h : suc (length l) - 1 ≡ length l = omega arith in
      rw (labelled-label m l L, h, add-one m, lies-origin m l L)
