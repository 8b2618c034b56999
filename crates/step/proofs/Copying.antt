-- Words copied to the front of a list, as many as it has room for, are stores from its start on.
use Prim.Native.Nat.{ℕ, ◌+◌, ◌-◌, ◌≤◌, min}
use mathlib.Core.Bool.{Bool, true, false}
use mathlib.Core.List.{List, ◌++◌}
use mathlib.Core.Path.{◌≡◌, ◌∙◌, refl, sym, ap}
use native.Mathlib.Omega.{arith}
use borrow.Author.Tests.{leb-true, leb-false}
use lib.Dec.{leb}
use lib.ListN.{length, take, drop, length-drop}
use lib.Seq.{sets, sets-eq, length-sets, length-take-le, take_all}
use Rattle.std.proofs.Common.{take-append-drop}
use Rattle.words.proofs.Sets.{sets_then, sets-out}

module _ (d s : List ℕ) (k : ℕ) (fits : k ≤ length d) (few : k ≤ length s) where
  there : 0 + length (take k s) ≡ k
  there = omega (arith, length-take-le k s few)

  front : sets d 0 (take k s) ≡ take k s ++ drop k d
  front = let e : 0 + length (take k s) ≡ k = there in sets-eq (take k s) d 0 (omega (arith, e)) ∙ rw e

  -- What finds no room is left out.
  none-past : length d ≤ k → sets d 0 s ≡ sets d 0 (take k s)
  none-past h =
      let e : 0 + length (take k s) ≡ k = there in
      let whole : take k s ++ drop k s ≡ s = take-append-drop k s in
      let out : sets (sets d 0 (take k s)) k (drop k s) ≡ sets d 0 (take k s) =
      sets-out (sets d 0 (take k s)) k (drop k s) (omega (arith, length-sets d 0 (take k s))) in
      ap (sets d 0) (sym whole) ∙ (sym (sets_then d 0 (take k s) (drop k s)) ∙ (rw e out))

pub copied : (d s : List ℕ) (k : ℕ) → k ≡ min (length d) (length s) → take k s ++ drop k d ≡ sets d 0 s
copied d s k e = by (leb (length d) k) refl
  where
    by : (t : Bool) → leb (length d) k ≡ t → take k s ++ drop k d ≡ sets d 0 s
    by true h =
        sym (none-past d s k (omega (arith, e)) (omega (arith, e)) (leb-true (length d) k h)
        ∙ front d s k (omega (arith, e)) (omega (arith, e)))
    by false h =
        let all : take k s ≡ s = take_all k s (omega (arith, e, leb-false (length d) k h)) in
        sym (front d s k (omega (arith, e)) (omega (arith, e))) ∙ ap (sets d 0) all

-- As many as there are.
pub taken : (n : ℕ) (l : List ℕ) → take (min (length l) n) l ≡ take n l
taken n l = by (leb (length l) n) refl
  where
    by : (t : Bool) → leb (length l) n ≡ t → take (min (length l) n) l ≡ take n l
    by true h =
        let small = leb-true (length l) n h in
        take_all (min (length l) n) l (omega (arith, small)) ∙ sym (take_all n l small)
    by false h = let e : min (length l) n ≡ n = omega (arith, leb-false (length l) n h) in rw e

-- Of the part from a place on.
pub taken-behind : (n low : ℕ) (s : List ℕ) (k : ℕ) → k ≡ min (length (take (length s - low) (drop low s))) n
    → take k (take (length s - low) (drop low s)) ≡ take n (drop low s)
taken-behind n low s k e =
    let all : take (length s - low) (drop low s) ≡ drop low s =
    take_all (length s - low) (drop low s) (simp length-drop (omega arith)) in
    rw (e, all) (taken n (drop low s))
