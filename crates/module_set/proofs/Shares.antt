-- A member of a set is what its row of the directory says, its share being behind the shares of the rows before it; past the
-- last row all words are 0 and the shares are empty. By induction on the rows: the rows behind the first are those of the rest
-- of the directory.
use mathlib.Core.Bool.{Bool, true, false}
use mathlib.Core.List.{List}
use mathlib.Core.Path.{◌≡◌, ◌∙◌, refl, sym, ap}
use Prim.Native.Nat.{ℕ, zero, suc, ◌+◌, ◌*◌, ◌/◌, ◌<◌, ◌≤◌}
use native.Mathlib.Omega.{arith}
use lib.Dec.{ltb}
use lib.ListN.{length, get_or, take, drop, length-drop}
use lib.Seq.{drop-drop, get_or-drop}
use borrow.Author.Tests.{lt-ltb, le-ltb, ltb-true, ltb-false}
use Rattle.module_set.specs.Members.{Member, no_member, member_at, members_from, members_of}
use Rattle.module_set.specs.Rows.{row_word, shares_before}

pub row-some : (d : List ℕ) (k j : ℕ) → k < length d / 4 → row_word d k j ≡ get_or d (4 * k + j) 0
unfolding row_word
row-some d k j h = rw (lt-ltb k (length d / 4) h)

pub row-none : (d : List ℕ) (k j : ℕ) → length d / 4 ≤ k → row_word d k j ≡ 0
unfolding row_word
row-none d k j h = rw (le-ltb k (length d / 4) h)

pub rows_left : (d : List ℕ) (n : ℕ) → suc n ≡ length d / 4 → n ≡ length (drop 4 d) / 4
rows_left d n e = omega (arith, length-drop 4 d)

pub row_next : (d : List ℕ) (k j : ℕ) → row_word (drop 4 d) k j ≡ row_word d (suc k) j
row_next d k j = by (ltb k (length (drop 4 d) / 4)) refl
  where
    by : (b : Bool) → ltb k (length (drop 4 d) / 4) ≡ b → row_word (drop 4 d) k j ≡ row_word d (suc k) j
    by true e =
        let l : k < length (drop 4 d) / 4 = ltb-true k (length (drop 4 d) / 4) e in
        let z : 4 + (4 * k + j) ≡ 4 * suc k + j = omega arith in
        row-some (drop 4 d) k j l
        ∙ (get_or-drop 4 d (4 * k + j) 0 ∙ (rw z (sym (row-some d (suc k) j (omega (arith, length-drop 4 d))))))
    by false e =
        let l : length (drop 4 d) / 4 ≤ k = ltb-false k (length (drop 4 d) / 4) e in
        row-none (drop 4 d) k j l ∙ sym (row-none d (suc k) j (omega (arith, length-drop 4 d)))

shares-next : (d : List ℕ) (j k : ℕ) → shares_before d j (suc k) ≡ row_word d 0 j + shares_before (drop 4 d) j k
shares-next d j zero = omega arith
shares-next d j (suc k) = omega (arith, shares-next d j k, row_next d k j)

-- The member that a row says.
abbrev pub member_in : (records lists directory : List ℕ) → ℕ → Member
member_in records lists d k =
    record {
      sid = row_word d k 0;
      bytes = take (row_word d k 1) (drop (shares_before d 1 k) records);
      results = take (row_word d k 2) (drop (shares_before d 2 k) lists);
    }

member-next : (r l d : List ℕ) (k : ℕ) →
    member_in (drop (row_word d 0 1) r) (drop (row_word d 0 2) l) (drop 4 d) k ≡ member_in r l d (suc k)
member-next r l d k =
    rw (
      shares-next d 1 k,
      shares-next d 2 k,
      drop-drop (shares_before (drop 4 d) 1 k) (row_word d 0 1) r,
      drop-drop (shares_before (drop 4 d) 2 k) (row_word d 0 2) l,
      row_next d k 0,
      row_next d k 1,
      row_next d k 2,
    )

row-member : (n k : ℕ) (r l d : List ℕ) → n ≡ length d / 4 → get_or (members_from n r l d) k no_member ≡ member_in r l d k
row-member zero k r l d e =
    rw (row-none d k 0 (omega arith), row-none d k 1 (omega arith), row-none d k 2 (omega arith))
row-member (suc n) zero r l d e =
    rw (row-some d 0 0 (omega arith), row-some d 0 1 (omega arith), row-some d 0 2 (omega arith))
row-member (suc n) (suc k) r l d e =
    let one : row_word d 0 1 ≡ get_or d 1 0 = row-some d 0 1 (omega arith) in
    let two : row_word d 0 2 ≡ get_or d 2 0 = row-some d 0 2 (omega arith) in
    row-member n k (drop (get_or d 1 0) r) (drop (get_or d 2 0) l) (drop 4 d) (rows_left d n e)
    ∙ (rw (one, two) at (member-next r l d k))

pub member-row : (r l d : List ℕ) (k : ℕ) → member_at (members_of r l d) k ≡ member_in r l d k
unfolding members_of
member-row r l d k = row-member (length d / 4) k r l d refl

-- As many members as whole rows.
counted : (n : ℕ) (r l d : List ℕ) → length (members_from n r l d) ≡ n
counted zero r l d = refl
counted (suc n) r l d = ap suc (counted n (drop (get_or d 1 0) r) (drop (get_or d 2 0) l) (drop 4 d))

pub member-count : (r l d : List ℕ) → length (members_of r l d) ≡ length d / 4
unfolding members_of
member-count r l d = counted (length d / 4) r l d
