-- Tests over every member, and the lowest number of the members: a turn of the loop takes the first of what is left.
use mathlib.Core.Bool.{Bool, true, false, ◌&&◌, and-eq-true_iff}
use mathlib.Core.List.{List, [], ◌∷◌, ◌++◌}
use mathlib.Core.Path.{◌≡◌, ◌∙◌, refl, sym, ap}
use Prim.Native.Nat.{ℕ, zero, suc, ◌+◌, ◌-◌, ◌/◌, ◌<◌, ◌≤◌, min}
use native.Mathlib.Omega.{arith}
use lib.ListN.{length, get_or, take, drop, length-append, length-drop, get_or-append, drop_of_length-le}
use lib.Seq.{drop_at, drop-cons, drop-length, take_all, take-nil}
use lib.Dec.{ltb}
use borrow.Author.Tests.{ltb-true, ltb-false}
use native.Mathlib.Numerals.{add-one}
use Rattle.words.specs.Order.{every}
use Rattle.words.specs.Refusal.{lower}
use Rattle.words.proofs.Refusal.{lower-left, lower-none, lower-assoc, lower-clear}
use Rattle.record.specs.Number.{record_number}
use Rattle.module_set.specs.Members.{Member, Members, no_member, member_at, members_from, members_of}
use Rattle.module_set.specs.Linked.{every_member, lowest_of, records_number}
use Rattle.module_set.proofs.Counting.{row}

-- The members from member k on.
module _ (test : Member → Bool) (S : Members) (k : ℕ) where
  pub every-over : length S ≤ k → every_member test (drop k S) ≡ true
  every-over h = rw (drop_of_length-le S {i = k} h)

  module _ (h : k < length S) (b : Bool) (e : b ≡ test (member_at S k)) where
    every-turn : every_member test (drop k S) ≡ (b && every_member test (drop (k + 1) S))
    every-turn = rw (drop-cons S k no_member h, add-one k, e)

    pub every-fails : b ≡ false → every_member test (drop k S) ≡ false
    every-fails f = every-turn ∙ rw f

    pub every-passes : b ≡ true → every_member test (drop k S) ≡ every_member test (drop (k + 1) S)
    every-passes t = every-turn ∙ rw t

-- The same by their numbers.
pub every-counted : (test : Member → Bool) (S : Members) (m k : ℕ) → length S - k ≡ m →
    every (λ i. test (member_at S i)) (row k m) ≡ every_member test (drop k S)
every-counted test S zero k e = sym (every-over test S k (omega arith))
every-counted test S (suc m) k e =
    rw (every-turn test S k (omega arith) (test (member_at S k)) refl)
    (ap (λ (b : Bool). test (member_at S k) && b) (every-counted test S m (k + 1) (omega arith)))

abbrev number_in : Member → ℕ
number_in X = record_number X.bytes

-- The lowest number of the records that a directory has the sizes of; it goes without results lists.
abbrev pub lowest_in : (records directory : List ℕ) → ℕ
lowest_in r d = lowest_of number_in (members_from (length d / 4) r [] d)

lists-apart : (n : ℕ) (r l m d : List ℕ) →
    lowest_of number_in (members_from n r l d) ≡ lowest_of number_in (members_from n r m d)
lists-apart zero r l m d = refl
lists-apart (suc n) r l m d =
    ap (lower (record_number (take (get_or d 1 0) r)))
    (lists-apart n (drop (get_or d 1 0) r) (drop (get_or d 2 0) l) (drop (get_or d 2 0) m) (drop 4 d))

first-row : (r row d : List ℕ) → length row ≡ 4 →
    lowest_in r (row ++ d) ≡ lower (record_number (take (get_or row 1 0) r)) (lowest_in (drop (get_or row 1 0) r) d)
first-row r row d four =
    let n : length (row ++ d) / 4 ≡ suc (length d / 4) = omega (arith, length-append row d, four) in
    let size : get_or (row ++ d) 1 0 ≡ get_or row 1 0 = get_or-append row d 0 1 (omega arith) in
    let rest : drop 4 (row ++ d) ≡ d = drop_at row d 4 four in
    rw (n, size, rest)
    (ap (lower (record_number (take (get_or row 1 0) r)))
    (lists-apart (length d / 4) (drop (get_or row 1 0) r) (drop (get_or (row ++ d) 2 0) []) [] d))

pub no-records : (r l d : List ℕ) → length d < 4 → records_number (members_of r l d) ≡ 1
unfolding members_of records_number
no-records r l d h = let z : length d / 4 ≡ 0 = omega arith in rw z

some-records : (n : ℕ) (r l d : List ℕ) → 1 ≤ n →
    records_number (members_from n r l d) ≡ lowest_of number_in (members_from n r [] d)
unfolding records_number
some-records zero r l d h = absurd (omega arith)
some-records (suc n) r l d h = lists-apart (suc n) r l [] d

-- What is left behind a share, which may reach past the end.
behind : (size : ℕ) (rest : List ℕ) →
    take (length rest - min size (length rest)) (drop (min size (length rest)) rest) ≡ drop size rest
behind size rest = by (ltb size (length rest)) refl
  where
    by : (b : Bool) → ltb size (length rest) ≡ b →
        take (length rest - min size (length rest)) (drop (min size (length rest)) rest) ≡ drop size rest
    by true e =
        let l : size < length rest = ltb-true size (length rest) e in
        let m : min size (length rest) ≡ size = omega arith in
        rw m (take_all (length rest - size) (drop size rest) (omega (arith, length-drop size rest)))
    by false e =
        let l : length rest ≤ size = ltb-false size (length rest) e in
        let m : min size (length rest) ≡ length rest = omega arith in
        rw (m, drop-length rest, drop_of_length-le rest {i = size} l) (take-nil (length rest - length rest))

-- Some rows are passed, `lowest` is the lowest of them, and `rest` is left of the records, `left` of the directory.
pub record Passed (r d : List ℕ) (lowest : ℕ) (rest left : List ℕ) : Type 0 where
  pub all : lower lowest (lowest_in rest left) ≡ lowest_in r d

pub passed_start : (r d : List ℕ) → Passed r d 0 r d
passed_start r d = record { all = lower-left (lowest_in r d) }

module _ {r d : List ℕ} {lowest : ℕ} {rest left : List ℕ} (p : Passed r d lowest rest left) where
  pub passed_over : (l : List ℕ) → 4 ≤ length d → length left < 4 → lowest ≡ records_number (members_of r l d)
  unfolding members_of
  passed_over l some h =
      let none : length left / 4 ≡ 0 = omega arith in
      sym (lower-none lowest) ∙ (rw none at p.all) ∙ sym (some-records (length d / 4) r l d (omega arith))

  pub passed-next :
      (number low passed : ℕ) (row left' first rest' : List ℕ) → left ≡ row ++ left' → length row ≡ 4 →
      first ≡ take (get_or row 1 0) (drop 0 rest) →
      number ≡ record_number first → low ≡ lower lowest number →
      passed ≡ min (get_or row 1 0) (length rest) → rest' ≡ take (length rest - passed) (drop passed rest) →
      Passed r d low rest' left'
  passed-next number low passed row left' first rest' cut four f n o m q =
      let size = get_or row 1 0 in
      let remains : rest' ≡ drop size rest = q ∙ rw m (behind size rest) in
      let turn : lower lowest (lower number (lowest_in (drop size rest) left')) ≡ lowest_in r d =
      rw (n, f) (rw (cut, first-row rest row left' four) at p.all) in
      record { all = rw (o, remains) (lower-assoc lowest number (lowest_in (drop size rest) left') ∙ turn) }

-- Where no record is refused, none of them is.
pub lowest-clear : (number : Member → ℕ) (S : Members) → lowest_of number S ≡ 0 → (k : ℕ) → k < length S → number (member_at S k) ≡ 0
lowest-clear number [] e k h = absurd (omega arith)
lowest-clear number (M ∷ S) e zero h = (lower-clear (number M) (lowest_of number S) e).0
lowest-clear number (M ∷ S) e (suc k) h = lowest-clear number S (lower-clear (number M) (lowest_of number S) e).1 k (omega arith)

pub members-sound : (S : Members) → records_number S ≡ 0 → (k : ℕ) → k < length S → record_number (member_at S k).bytes ≡ 0
unfolding records_number
members-sound [] e k h = absurd (omega arith)
members-sound (M ∷ S) e k h = lowest-clear number_in (M ∷ S) e k h

-- A test that every member passes, of one of them.
pub every-member : (test : Member → Bool) (S : Members) → every_member test S ≡ true → (k : ℕ) → k < length S →
    test (member_at S k) ≡ true
every-member test [] e k h = absurd (omega arith)
every-member test (M ∷ S) e zero h = ((and-eq-true_iff (test M) (every_member test S)).0 e).0
every-member test (M ∷ S) e (suc k) h = every-member test S ((and-eq-true_iff (test M) (every_member test S)).0 e).1 k
    (omega arith)
