-- The copy, a module at a time: what is left to write, to count or to compare decides the whole. And what it is that a list
-- begins with another.
use mathlib.Core.Bool.{Bool, true, false, ◌&&◌, and_assoc, and-false, and-eq-true_iff}
use mathlib.Core.List.{List, [], ◌∷◌, ◌++◌}
use mathlib.Core.Path.{◌≡◌, ◌∙◌, refl, sym, ap}
use Prim.Native.Nat.{ℕ, zero, suc, ◌+◌, ◌-◌, ◌*◌, ◌<◌, ◌≤◌}
use native.Mathlib.Numerals.{add-one}
use native.Mathlib.Omega.{arith}
use lib.Dec.{eqb, ltb}
use lib.ListN.{length, take, drop, length-append, drop_of_length-le}
use lib.Seq.{sets, drop-cons, drop-drop, sets-eq, length-sets}
use borrow.Author.Tests.{eq-eqb, eqb-true, ltb-true, ltb-false}
use Rattle.words.specs.Bytes.{byte_at}
use Rattle.words.specs.Order.{every}
use Rattle.words.specs.Series.{series}
use Rattle.words.proofs.Sets.{sets_behind, sets-within}
use Rattle.words.proofs.Slices.{drop-one}
use Rattle.header.specs.Header.{code_of}
use Rattle.module_set.proofs.Counting.{row}
use Rattle.module_set.specs.Members.{Members, no_member, member_at}
use Rattle.relocation.specs.Relocation.{relocated, copies_from, copy_of, begins}
use Rattle.words.specs.Lent.{over}
use Rattle.relocation.proofs.Rewriting.{relocated-length}

-- The copies from member k on.
module _ (S : Members) (k : ℕ) where
  pub copies-over : length S ≤ k → copies_from S (drop k S) ≡ []
  copies-over h = rw (drop_of_length-le S {i = k} h)

  pub copies-turn : k < length S → copies_from S (drop k S) ≡ relocated S (member_at S k).bytes ++ copies_from S (drop (k + 1) S)
  copies-turn h = rw (drop-cons S k no_member h, add-one k)

-- Counted so far: `size` bytes.
pub record Counted (S : Members) (size k : ℕ) : Type 0 where
  pub rest : size + length (copies_from S (drop k S)) ≡ length (copy_of S)
  pub small : size ≤ 4096 * k

pub counted_start : (S : Members) → Counted S 0 0
unfolding copy_of
counted_start S = record { rest = omega arith; small = omega arith }

module _ {S : Members} {size k : ℕ} (c : Counted S size k) where
  pub counted_next :
      k < length S → (r : List ℕ) → r ≡ (member_at S k).bytes → (n : ℕ) → n ≡ length (code_of r) → n ≤ 4096 →
      Counted S (size + n) (k + 1)
  counted_next h r e n s few =
      let own = relocated S (member_at S k).bytes in
      let others = copies_from S (drop (k + 1) S) in
      let long : length own ≡ n = rw (← e) (relocated-length S r ∙ sym s) in
      record {
        rest = omega (arith, c.rest, ap length (copies-turn S k h), length-append own others, long);
        small = omega (arith, c.small);
      }

-- Written so far, up to `at` in `copy`.
pub record Written (S : Members) (before copy : List ℕ) (at k : ℕ) : Type 0 where
  pub rest : sets copy at (copies_from S (drop k S)) ≡ sets before 0 (copy_of S)
  pub room : at + length (copies_from S (drop k S)) ≤ length copy
  pub kept : length copy ≡ length before

pub written_start : (S : Members) (copy : List ℕ) → length (copy_of S) ≤ length copy → Written S copy copy 0 0
unfolding copy_of
written_start S copy h = record { rest = refl; room = omega arith; kept = refl }

module _ {S : Members} {before copy : List ℕ} {at k : ℕ} (w : Written S before copy at k) where
  pub written_over : length S ≤ k → length (copy_of S) ≤ length before → copy ≡ over (copy_of S) before
  written_over h room =
      let z : 0 + length (copy_of S) ≡ length (copy_of S) = omega arith in
      (rw (copies-over S k h) at w.rest) ∙ (sets-eq (copy_of S) before 0 (omega arith) ∙ rw z)

  module _ (h : k < length S) (r : List ℕ) (e : r ≡ (member_at S k).bytes) (size : ℕ) (s : size ≡ length (code_of r)) where
    long : length (relocated S (member_at S k).bytes) ≡ size
    long = rw (← e) (relocated-length S r ∙ sym s)

    pub written-room : at + size ≤ length copy
    written-room =
        let own = relocated S (member_at S k).bytes in
        omega (arith, w.room, ap length (copies-turn S k h), length-append own (copies_from S (drop (k + 1) S)), long)

    pub written_next :
        (part copy' : List ℕ) → part ≡ sets (take (length copy - at) (drop at copy)) 0 (relocated S r) →
        copy' ≡ take at copy ++ (part ++ drop (length copy - at) (drop at copy)) → Written S before copy' (at + size) (k + 1)
    written_next part copy' p q =
        let own = relocated S (member_at S k).bytes in
        let others = copies_from S (drop (k + 1) S) in
        let stored : copy' ≡ sets copy at own =
        q ∙ sets-within copy at own part (omega (arith, w.room))
        (p ∙ ap (λ (b : List ℕ). sets (take (length copy - at) (drop at copy)) 0 (relocated S b)) e) in
        let place : at + size ≡ at + length own = omega (arith, long) in
        record {
          rest = rw stored (sets_behind copy at (at + size) own others place ∙ (rw (copies-turn S k h) at w.rest));
          room = rw stored
              (omega (arith, w.room, ap length (copies-turn S k h), length-append own others, long, length-sets copy at own));
          kept = rw stored (length-sets copy at own ∙ w.kept);
        }

-- A list begins with one and then with another.
pub begins-append : (xs ys zs : List ℕ) → begins (xs ++ ys) zs ≡ (begins xs zs && begins ys (drop (length xs) zs))
begins-append [] ys zs = refl
begins-append (x ∷ xs) ys [] = refl
begins-append (x ∷ xs) ys (z ∷ zs) =
    ap (λ (b : Bool). eqb x z && b) (begins-append xs ys zs)
    ∙ sym (and_assoc (eqb x z) (begins xs zs) (begins ys (drop (length xs) zs)))

pub begins-takes : (xs zs : List ℕ) → begins xs zs ≡ true → take (length xs) zs ≡ xs
begins-takes [] zs e = refl
begins-takes (x ∷ xs) [] e = let z : ◌≡◌ {A = ℕ} 0 1 = cc in absurd (omega arith)
begins-takes (x ∷ xs) (z ∷ zs) e =
    let t = (and-eq-true_iff (eqb x z) (begins xs zs)).0 e in
    let same : x ≡ z = eqb-true x z t.0 in
    rw (← same) (ap (λ (l : List ℕ). x ∷ l) (begins-takes xs zs t.1))

pub takes-begins : (xs zs : List ℕ) → take (length xs) zs ≡ xs → begins xs zs ≡ true
takes-begins [] zs e = refl
takes-begins (x ∷ xs) [] e = let z : ◌≡◌ {A = ℕ} 0 1 = cc in absurd (omega arith)
takes-begins (x ∷ xs) (z ∷ zs) e =
    let same : z ≡ x = cc in
    let rest : take (length xs) zs ≡ xs = cc in
    rw (eq-eqb x z (sym same), takes-begins xs zs rest)

-- Compared byte by byte, from `at` on.
pub compared : (f : ℕ → ℕ) (part : List ℕ) (n at : ℕ) → at + n ≤ length part →
    begins (series f 1 at n) (drop at part) ≡ every (λ i. eqb (f i) (byte_at part i)) (row at n)
compared f part zero at h = refl
compared f part (suc n) at h =
    rw (drop-one part at (omega arith))
    (ap (λ (b : Bool). eqb (f at) (byte_at part at) && b) (compared f part n (at + 1) (omega arith)))

pub too-short : (f : ℕ → ℕ) (part : List ℕ) (n at : ℕ) → at ≤ length part → length part < at + n →
    begins (series f 1 at n) (drop at part) ≡ false
too-short f part zero at h l = absurd (omega arith)
too-short f part (suc n) at h l = by (ltb at (length part)) refl (λ q. too-short f part n (at + 1) (omega arith) (omega arith))
  where
    by : (b : Bool) → ltb at (length part) ≡ b → (at < length part → begins (series f 1 (at + 1) n) (drop (at + 1) part) ≡ false)
        → begins (series f 1 at (suc n)) (drop at part) ≡ false
    by true q rest =
        let some : at < length part = ltb-true at (length part) q in
        rw (drop-one part at some, rest some, and-false)
    by false q rest = rw (drop_of_length-le part {i = at} (ltb-false at (length part) q))

-- Compared module by module, from `at` in `copy` on.
pub same_start : (S : Members) (copy : List ℕ) → begins (copy_of S) copy ≡ begins (copies_from S (drop 0 S)) (drop 0 copy)
unfolding copy_of
same_start S copy = refl

module _ (S : Members) (copy : List ℕ) (at k : ℕ) where
  module _ (h : k < length S) (r : List ℕ) (e : r ≡ (member_at S k).bytes) (b : Bool)
      (q : b ≡ begins (relocated S r) (drop at copy)) where
    same_turn : begins (copies_from S (drop k S)) (drop at copy)
        ≡ (b && begins (copies_from S (drop (k + 1) S)) (drop (at + length (code_of r)) copy))
    same_turn =
        let own = relocated S r in
        let others = copies_from S (drop (k + 1) S) in
        rw (copies-turn S k h, ← e)
        (begins-append own others (drop at copy) ∙ rw (drop-drop (length own) at copy, relocated-length S r, q))

    pub same-fails : b ≡ false → begins (copies_from S (drop k S)) (drop at copy) ≡ false
    same-fails t = same_turn ∙ rw t

    pub same_next : b ≡ true →
        begins (copies_from S (drop k S)) (drop at copy)
        ≡ begins (copies_from S (drop (k + 1) S)) (drop (at + length (code_of r)) copy)
    same_next t = same_turn ∙ rw t
