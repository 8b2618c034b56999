-- Two lists of slots pass the test exactly when they are equal: by induction on both.
use mathlib.Core.Bool.{true, and-eq-true_iff}
use mathlib.Core.List.{List, [], ◌∷◌}
use mathlib.Core.Path.{◌≡◌, refl, ap}
use borrow.Author.Tests.{eqb-true, eq-eqb}
use Rattle.stackmap.specs.Slots.{Slot, word, label, same_slot, same_slots}

slot-equal : (x y : Slot) → same_slot x y ≡ true → x ≡ y
slot-equal word word e = refl
slot-equal word (label b) e = cc
slot-equal (label a) word e = cc
slot-equal (label a) (label b) e = ap label (eqb-true a b e)

pub slots-equal : (l m : List Slot) → same_slots l m ≡ true → l ≡ m
slots-equal [] [] e = refl
slots-equal [] (y ∷ m) e = cc
slots-equal (x ∷ l) [] e = cc
slots-equal (x ∷ l) (y ∷ m) e =
    let b = (and-eq-true_iff (same_slot x y) (same_slots l m)).0 e in
    rw (slot-equal x y b.0, slots-equal l m b.1)

slot_same : (x : Slot) → same_slot x x ≡ true
slot_same word = refl
slot_same (label a) = eq-eqb a a refl

pub slots_same : (l : List Slot) → same_slots l l ≡ true
slots_same [] = refl
slots_same (x ∷ l) = rw (slot_same x, slots_same l)
