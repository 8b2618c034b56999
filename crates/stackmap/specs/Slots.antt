-- Lists of slots, the top first. 01: "A slot is a word, or a label that names the ITER or SWITCH that pushed it".
use Rattle.std.specs.Prelude.{Bool, true, false, ◌&&◌, List, [], ◌∷◌, ℕ, zero, suc, ◌+◌, eqb}
use Rattle.std.proofs.Math.Option.{Option, none, some}

-- A label names the offset of its origin (01: its maker).
pub data Slot : Type 0 where
  word : Slot
  label : ℕ → Slot

abbrev pub push_words : ℕ → List Slot → List Slot
push_words zero l = l
push_words (suc n) l = word ∷ push_words n l

-- What is under n words; none where a label or the end comes first.
abbrev pub pop_words : ℕ → List Slot → Option (List Slot)
pop_words zero l = some l
pop_words (suc n) [] = none
pop_words (suc n) (word ∷ l) = pop_words n l
pop_words (suc n) (label origin ∷ l) = none

-- What is under n slots of either kind.
abbrev pub pop_slots : ℕ → List Slot → Option (List Slot)
pop_slots zero l = some l
pop_slots (suc n) [] = none
pop_slots (suc n) (x ∷ l) = pop_slots n l

-- Exactly n words.
abbrev pub is_words : ℕ → List Slot → Bool
is_words zero [] = true
is_words zero (x ∷ l) = false
is_words (suc n) [] = false
is_words (suc n) (word ∷ l) = is_words n l
is_words (suc n) (label origin ∷ l) = false

abbrev pub same_slot : Slot → Slot → Bool
same_slot word word = true
same_slot word (label b) = false
same_slot (label a) word = false
same_slot (label a) (label b) = eqb a b

abbrev pub same_slots : List Slot → List Slot → Bool
same_slots [] [] = true
same_slots [] (y ∷ m) = false
same_slots (x ∷ l) [] = false
same_slots (x ∷ l) (y ∷ m) = same_slot x y && same_slots l m

-- "1 plus the offset of the topmost label's maker (0 if none)".
abbrev pub top_origin : List Slot → ℕ
top_origin [] = 0
top_origin (word ∷ l) = top_origin l
top_origin (label origin ∷ l) = origin + 1
