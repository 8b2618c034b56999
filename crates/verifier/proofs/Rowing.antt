-- Rows of the table that code fills: a row holds the library that it was filled for, rows before it stay, and all rows are
-- the libraries of the import list. What is left to store decides the whole table.
use mathlib.Core.Bool.{Bool, true, false}
use mathlib.Core.List.{List, [], ◌∷◌, ◌++◌}
use mathlib.Core.Path.{◌≡◌, ◌∙◌, refl, sym, ap}
use Prim.Native.Nat.{ℕ, zero, suc, ◌+◌, ◌-◌, ◌*◌, ◌/◌, ◌≤◌, ◌<◌}
use native.Mathlib.Omega.{arith}
use lib.Dec.{eqb}
use lib.ListN.{length, get_or, take, drop, set, length-set}
use lib.Seq.{sets, length-sets, get_or-take, get_or-set_same, get_or-set_other, length-take-le}
use borrow.Author.Tests.{eqb-true, eqb-false}
use Rattle.words.specs.Bytes.{word_at}
use Rattle.words.specs.Series.{series}
use Rattle.words.proofs.Left.{one_left}
use Rattle.words.proofs.Sets.{sets_behind}
use Rattle.header.specs.Header.{header_of, code_of, code_at}
use Rattle.entries.specs.Libraries.{library_at, libraries_from, libraries_in}
use Rattle.module_set.specs.Members.{Member, Members, members_of, member_at, number_of}
use Rattle.module_set.specs.Rows.{row_word, shares_before}
use Rattle.module_set.proofs.Shares.{member_in, member-row}
use Rattle.verifier.specs.Check.{library_of, libraries_over, libraries_of}
use Rattle.verifier.specs.Tables.{library_row, row_put, library_rows, library_table}
use Rattle.verifier.proofs.Tables.{part-whole, part-of-part}

-- Four words stored one by one.
abbrev with_row : (t : List ℕ) (j a b c d : ℕ) → List ℕ
with_row t j a b c d = set (set (set (set t (4 * j) a) (4 * j + 1) b) (4 * j + 2) c) (4 * j + 3) d

pub row-stored : (t : List ℕ) (j a b c d : ℕ) →
    set (set (set (set t (4 * j) a) (4 * j + 1) b) (4 * j + 2) c) (4 * j + 3) d ≡ sets t (4 * j) (a ∷ b ∷ c ∷ d ∷ [])
row-stored t j a b c d =
    let one : 4 * j + 1 ≡ suc (4 * j) = omega arith in
    let two : 4 * j + 2 ≡ suc (suc (4 * j)) = omega arith in
    let three : 4 * j + 3 ≡ suc (suc (suc (4 * j))) = omega arith in
    rw (one, two, three)

module _ (t : List ℕ) (j a b c d : ℕ) where
  -- Before the row.
  row_other : (x : ℕ) → x < 4 * j → get_or (with_row t j a b c d) x 0 ≡ get_or t x 0
  row_other x h =
      let one = set t (4 * j) a in
      let two = set one (4 * j + 1) b in
      let three = set two (4 * j + 2) c in
      get_or-set_other three (4 * j + 3) x d 0 (λ e. omega arith)
      ∙ (get_or-set_other two (4 * j + 2) x c 0 (λ e. omega arith)
      ∙ (get_or-set_other one (4 * j + 1) x b 0 (λ e. omega arith) ∙ get_or-set_other t (4 * j) x a 0 (λ e. omega arith)))

  -- The row's own words.
  record Row (u : List ℕ) : Type 0 where
    first : get_or u (4 * j) 0 ≡ a
    second : get_or u (4 * j + 1) 0 ≡ b
    third : get_or u (4 * j + 2) 0 ≡ c
    fourth : get_or u (4 * j + 3) 0 ≡ d

  row_words : 4 * j + 4 ≤ length t → Row (with_row t j a b c d)
  row_words h =
      let one = set t (4 * j) a in
      let two = set one (4 * j + 1) b in
      let three = set two (4 * j + 2) c in
      let l1 = length-set t (4 * j) a in
      let l2 = length-set one (4 * j + 1) b in
      let l3 = length-set two (4 * j + 2) c in
      record {
        first =
            get_or-set_other three (4 * j + 3) (4 * j) d 0 (λ e. omega arith)
            ∙ (get_or-set_other two (4 * j + 2) (4 * j) c 0 (λ e. omega arith)
            ∙ (get_or-set_other one (4 * j + 1) (4 * j) b 0 (λ e. omega arith) ∙ get_or-set_same t (4 * j) a 0 (omega arith)));
        second =
            get_or-set_other three (4 * j + 3) (4 * j + 1) d 0 (λ e. omega arith)
            ∙ (get_or-set_other two (4 * j + 2) (4 * j + 1) c 0 (λ e. omega arith)
            ∙ get_or-set_same one (4 * j + 1) b 0 (omega (arith, l1)));
        third =
            get_or-set_other three (4 * j + 3) (4 * j + 2) d 0 (λ e. omega arith)
            ∙ get_or-set_same two (4 * j + 2) c 0 (omega (arith, l1, l2));
        fourth = get_or-set_same three (4 * j + 3) d 0 (omega (arith, l1, l2, l3));
      }

module _ (records lists directory : List ℕ) where
  abbrev S : Members
  S = members_of records lists directory

  -- A row's words, stored one by one.
  abbrev put : ℕ → List ℕ → ℕ → List ℕ
  put m t j =
      let M = member_at (members_of records lists directory) m in
      with_row t j (shares_before directory 1 m + code_at (header_of M.bytes)) (length (code_of M.bytes))
      (shares_before directory 2 m) (length M.results)

  put-row : (m : ℕ) (t : List ℕ) (j : ℕ) → row_put records lists directory m t j ≡ put m t j
  unfolding row_put
  put-row m t j = sym (row-stored t j _ _ _ _)

  -- Row i of a table is module m.
  abbrev Holds : List ℕ → ℕ → ℕ → Type 0
  Holds t i m = library_at t records lists i ≡ library_of (member_at (members_of records lists directory) m)

  put-length : (m : ℕ) (t : List ℕ) (j : ℕ) → length (row_put records lists directory m t j) ≡ length t
  unfolding row_put
  put-length m t j = length-sets t (4 * j) (library_row records lists directory m)

  put_other : (m : ℕ) (t : List ℕ) (j i : ℕ) → i < j
      → library_at (row_put records lists directory m t j) records lists i ≡ library_at t records lists i
  put_other m t j i h =
      let M = member_at S m in
      let other = row_other t j (shares_before directory 1 m + code_at (header_of M.bytes)) (length (code_of M.bytes))
      (shares_before directory 2 m) (length M.results) in
      rw (
        put-row m t j,
        other (4 * i) (omega arith),
        other (4 * i + 1) (omega arith),
        other (4 * i + 2) (omega arith),
        other (4 * i + 3) (omega arith),
      )

  -- The parts that a row says are those of the module.
  code-part : (m : ℕ) →
      let M = member_at (members_of records lists directory) m in
      take (length (code_of M.bytes)) (drop (shares_before directory 1 m + code_at (header_of M.bytes)) records)
      ≡ code_of M.bytes
  unfolding code_of
  code-part m =
      rw (ap (λ (M : Member). M.bytes) (member-row records lists directory m))
      (part-of-part records (shares_before directory 1 m) (row_word directory m 1)
      (code_at (header_of (member_in records lists directory m).bytes))
      (header_of (member_in records lists directory m).bytes).code)

  list-part : (m : ℕ) →
      let M = member_at (members_of records lists directory) m in
      take (length M.results) (drop (shares_before directory 2 m) lists) ≡ M.results
  list-part m =
      rw (ap (λ (M : Member). M.results) (member-row records lists directory m))
      (part-whole lists (shares_before directory 2 m) (row_word directory m 2))

  put_holds : (m : ℕ) (t : List ℕ) (j : ℕ) → 4 * j + 4 ≤ length t → Holds (row_put records lists directory m t j) j m
  put_holds m t j h =
      let M = member_at S m in
      let words = row_words t j (shares_before directory 1 m + code_at (header_of M.bytes)) (length (code_of M.bytes))
      (shares_before directory 2 m) (length M.results) h in
      rw (put-row m t j, words.first, words.second, words.third, words.fourth, code-part m, list-part m)

  -- The first j rows are filled for the imports of a record.
  pub record Filled (r t : List ℕ) (j : ℕ) : Type 0 where
    pub long : length t ≡ 64
    pub rows : (i : ℕ) → i < j → Holds t i (number_of (members_of records lists directory) (word_at r (28 + 4 * i)))

  pub filled-start : (r t : List ℕ) → length t ≡ 64 → Filled r t 0
  filled-start r t e = record { long = e; rows = λ i h. absurd (omega arith) }

  pub filled_next : (r t : List ℕ) (j m : ℕ) (t' : List ℕ) → Filled r t j → j < 16
      → m ≡ number_of (members_of records lists directory) (word_at r (28 + 4 * j))
      → t' ≡ row_put records lists directory m t j → Filled r t' (j + 1)
  filled_next r t j m t' F h e f =
      record { long = ap length f ∙ (put-length m t j ∙ F.long); rows = λ i l. by i (eqb i j) refl l }
    where
      by : (i : ℕ) (q : Bool) → eqb i j ≡ q → i < j + 1
          → Holds t' i (number_of (members_of records lists directory) (word_at r (28 + 4 * i)))
      by i true q l =
          let z : i ≡ j = eqb-true i j q in
          rw (z, f, ← e) (put_holds m t j (omega (arith, F.long)))
      by i false q l =
          let z : i < j = omega (arith, eqb-false i j q) in
          rw f (put_other m t j i z ∙ F.rows i z)

  -- All of them.
  all-rows : (r t : List ℕ) (k n at : ℕ) → at ≡ 28 + 4 * k
      → ((i : ℕ) → k ≤ i → i < k + n → Holds t i (number_of (members_of records lists directory) (word_at r (28 + 4 * i))))
      → libraries_from t records lists k n ≡ libraries_over (members_of records lists directory) (series (word_at r) 4 at n)
  all-rows r t k zero at e f = refl
  all-rows r t k (suc n) at e f =
      let first : Holds t k (number_of S (word_at r at)) = rw e (f k (omega arith) (omega arith)) in
      rw (first, all-rows r t (k + 1) n (at + 4) (omega arith) (λ i a b. f i (omega arith) (omega arith)))

  -- The words of the rows are all that is lent.
  pub filled-all : (r t : List ℕ) (n : ℕ) → Filled r t n → n ≡ (header_of r).imports → n ≤ 16
      → libraries_in (take (4 * n) t) records lists ≡ libraries_of (members_of records lists directory) r
  unfolding libraries_in libraries_of
  filled-all r t n F e h =
      let long : length (take (4 * n) t) ≡ 4 * n = length-take-le (4 * n) t (omega (arith, F.long)) in
      let count : length (take (4 * n) t) / 4 ≡ n = omega (arith, long) in
      rw (count, ← e)
      (all-rows r (take (4 * n) t) 0 n 28 refl
      (λ i a b.
      let near : i < n = omega arith in
      rw (
        get_or-take (4 * n) t (4 * i) 0 (omega arith),
        get_or-take (4 * n) t (4 * i + 1) 0 (omega arith),
        get_or-take (4 * n) t (4 * i + 2) 0 (omega arith),
        get_or-take (4 * n) t (4 * i + 3) 0 (omega arith),
      ) (F.rows i near)))

  -- The rows from j on, stored into t, make of it what all rows make of the table before.
  pub record Stored (r before t : List ℕ) (j : ℕ) : Type 0 where
    pub rest :
        sets t (4 * j) (library_rows records lists directory (series (word_at r) 4 (28 + 4 * j) ((header_of r).imports - j)))
        ≡ sets before 0 (library_table records lists directory r)

  pub stored-start : (r t : List ℕ) → Stored r t t 0
  unfolding library_table
  stored-start r t =
      let all : (header_of r).imports - 0 ≡ (header_of r).imports = omega arith in
      record { rest = rw all }

  pub stored_next : (r before t : List ℕ) (j m : ℕ) (t' : List ℕ) → Stored r before t j → j < (header_of r).imports
      → m ≡ number_of (members_of records lists directory) (word_at r (28 + 4 * j))
      → t' ≡ row_put records lists directory m t j → Stored r before t' (j + 1)
  unfolding row_put
  stored_next r before t j m t' w h e f =
      let n = (header_of r).imports in
      let row = library_row records lists directory m in
      let others = library_rows records lists directory (series (word_at r) 4 (28 + 4 * (j + 1)) (n - (j + 1))) in
      let next : 28 + 4 * j + 4 ≡ 28 + 4 * (j + 1) = omega arith in
      let turn : library_rows records lists directory (series (word_at r) 4 (28 + 4 * j) (n - j)) ≡ row ++ others =
      rw (one_left j n h, next, e) in
      let place : 4 * (j + 1) ≡ 4 * j + length row = omega arith in
      record { rest = rw f (sets_behind t (4 * j) (4 * (j + 1)) row others place ∙ (rw turn at w.rest)) }

  pub stored-all : (r before t : List ℕ) (n : ℕ) → Stored r before t n → n ≡ (header_of r).imports
      → t ≡ sets before 0 (library_table records lists directory r)
  stored-all r before t n w e =
      let none : (header_of r).imports - n ≡ 0 = omega arith in
      rw none at w.rest
