-- A part of a list that reaches past its end is what there is of it; past the end there is nothing. What is left of a list is one
-- element and the rest, or a part and the rest.
use Prim.Native.Nat.{ℕ, ◌+◌, ◌-◌, ◌≤◌, ◌<◌}
use mathlib.Core.Path.{◌≡◌, ◌∙◌, sym}
use mathlib.Core.List.{List, ◌∷◌, ◌++◌, append-nil}
use native.Mathlib.Numerals.{add-one}
use native.Mathlib.Omega.{arith}
use lib.ListN.{length, get_or, take, drop, length-drop, take-append-drop, drop_of_length-le}
use lib.Seq.{take_all, take-nil, drop-cons, drop-drop, drop-length}

pub part-past : (s : List ℕ) (at n : ℕ) → length s ≤ at → take (length s - length s) (drop (length s) s) ≡ take n (drop at s)
part-past s at n h =
    rw (drop-length s, drop_of_length-le s h, take-nil {A = ℕ} (length s - length s)) (sym (take-nil n))

pub part-rest : (s : List ℕ) (at n : ℕ) → length s - at ≤ n → take (length s - at) (drop at s) ≡ take n (drop at s)
part-rest s at n h =
    take_all (length s - at) (drop at s) (simp length-drop (omega arith)) ∙ sym (take_all n (drop at s) (simp length-drop (omega arith)))

-- Nothing is behind the end.
pub none-behind : (xs w : List ℕ) (n : ℕ) → length w ≤ n → xs ++ drop n w ≡ xs
none-behind xs w n h = rw (drop_of_length-le w {i = n} h, append-nil xs)

-- One more of a list.
pub drop-one : (s : List ℕ) (i : ℕ) → i < length s → drop i s ≡ get_or s i 0 ∷ drop (i + 1) s
drop-one s i h = rw (add-one i) (drop-cons s i 0 h)

-- A part and what is behind it.
pub part_join : (s : List ℕ) (n m : ℕ) → take m (drop n s) ++ drop (n + m) s ≡ drop n s
part_join s n m = rw (← drop-drop m n s) (take-append-drop m (drop n s))
