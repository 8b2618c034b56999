-- The rows of the table, one behind the other; and that they say of a copy what the set is: the code of each is where its row
-- says, for the copy begins with the codes in turn.
use mathlib.Core.Bool.{Bool, true, false, cond, and-eq-true_iff}
use mathlib.Core.List.{List, [], ◌∷◌, ◌++◌, append_assoc}
use mathlib.Core.Path.{◌≡◌, ◌∙◌, refl, sym, subst}
use Prim.Native.Nat.{ℕ, suc, ◌+◌, ◌*◌, ◌/◌, ◌<◌, ◌≤◌}
use native.Mathlib.Numerals.{add-one}
use native.Mathlib.Omega.{arith}
use lib.Dec.{eqb}
use lib.ListN.{length, get_or, set, take, drop, length-append, drop_of_length-le}
use lib.Seq.{sets, drop-cons, drop-drop, sets-eq, length-sets, get_or-append-add, take_at, take-length}
use Rattle.words.proofs.Sets.{sets_behind}
use Rattle.header.specs.Header.{header_of, code_of}
use Rattle.version.specs.Issue.{wraps}
use Rattle.module_set.specs.Members.{Members, no_member, member_at, single}
use Rattle.relocation.specs.Relocation.{relocated, copies_from, copy_of, begins, set_number}
use Rattle.relocation.proofs.Rewriting.{relocated-length}
use Rattle.relocation.proofs.Copying.{begins-append, begins-takes, takes-begins}
use Rattle.relocation.proofs.Alone.{copy-alone}
use Rattle.registers.specs.Modules.{row_word, row_at, rows_from, modules_in}
use Rattle.registers.specs.Program.{module_of}
use Rattle.load.specs.Modules.{modules_from, modules_of, row_of, rows_over, table_of}

-- Five words stored in turn.
pub row-stored : (t : List ℕ) (place a b c d e : ℕ) →
    set (set (set (set (set t place a) (place + 1) b) (place + 2) c) (place + 3) d) (place + 4) e
    ≡ sets t place (a ∷ b ∷ c ∷ d ∷ e ∷ [])
row-stored t place a b c d e =
    let one : place + 1 ≡ suc place = omega arith in
    let two : place + 2 ≡ suc (suc place) = omega arith in
    let three : place + 3 ≡ suc (suc (suc place)) = omega arith in
    let four : place + 4 ≡ suc (suc (suc (suc place))) = omega arith in
    rw (one, two, three, four)

rows_long : (at : ℕ) (T : Members) → length (rows_over T at) ≡ 5 * length T
rows_long at [] = refl
rows_long at (M ∷ T) = omega (arith, rows_long (at + length (code_of M.bytes)) T)

one_bit : (b : Bool) → eqb (cond b 1 0) 1 ≡ b
one_bit true = refl
one_bit false = refl

-- A row read back behind others.
module _ (pre more copy r code : List ℕ) (at k : ℕ) (l : length pre ≡ 5 * k)
    (c : take (length (code_of r)) (drop at copy) ≡ code) where
  word : (i : ℕ) → row_word (pre ++ (row_of r at ++ more)) k i ≡ get_or (row_of r at ++ more) i 0
  word i = rw l at (get_or-append-add pre (row_of r at ++ more) i 0)

  row_back : row_at (pre ++ (row_of r at ++ more)) copy k ≡ module_of r code
  row_back = rw (word 0, word 1, word 2, word 3, word 4, c, one_bit (wraps r (header_of r)))

rows_back : (S T : Members) (pre copy : List ℕ) (at k : ℕ) → length pre ≡ 5 * k →
    begins (copies_from S T) (drop at copy) ≡ true → rows_from (pre ++ rows_over T at) copy k (length T) ≡ modules_from S T
rows_back S [] pre copy at k l b = refl
rows_back S (M ∷ T) pre copy at k l b =
    let r = M.bytes in
    let own = relocated S r in
    let size = length (code_of r) in
    let more = rows_over T (at + size) in
    let both = (and-eq-true_iff (begins own (drop at copy)) (begins (copies_from S T) (drop (length own) (drop at copy)))).0
    (sym (begins-append own (copies_from S T) (drop at copy)) ∙ b) in
    let code : take size (drop at copy) ≡ own = rw (relocated-length S r) at (begins-takes own (drop at copy) both.0) in
    let rest : begins (copies_from S T) (drop (at + size) copy) ≡ true =
    rw (drop-drop (length own) at copy, relocated-length S r) at both.1 in
    let long : length (pre ++ row_of r at) ≡ 5 * (k + 1) = omega (arith, length-append pre (row_of r at)) in
    let behind : rows_from (pre ++ (row_of r at ++ more)) copy (k + 1) (length T) ≡ modules_from S T =
    subst (λ (w : List ℕ). rows_from w copy (k + 1) (length T) ≡ modules_from S T) (append_assoc pre (row_of r at) more)
    (rows_back S T (pre ++ row_of r at) copy (at + size) (k + 1) long rest) in
    rw (row_back pre more copy r own at k l code, behind)

pub table-back : (S : Members) (copy : List ℕ) → begins (copy_of S) copy ≡ true → modules_in (rows_over S 0) copy ≡ modules_of S
unfolding modules_in modules_of copy_of
table-back S copy b =
    let n : length (rows_over S 0) / 5 ≡ length S = omega (arith, rows_long 0 S) in
    rw n (rows_back S S [] copy 0 0 refl b)

-- Written so far: k rows.
pub record Tabled (S : Members) (before table : List ℕ) (at k : ℕ) : Type 0 where
  pub rest : sets table (5 * k) (rows_over (drop k S) at) ≡ sets before 0 (rows_over S 0)
  pub kept : length table ≡ length before
  pub small : at ≤ 4096 * k

pub tabled_start : (S : Members) (table : List ℕ) → Tabled S table table 0 0
tabled_start S table = record { rest = refl; kept = refl; small = omega arith }

module _ {S : Members} {before table : List ℕ} {at k : ℕ} (w : Tabled S before table at k) where
  pub tabled-words : length S ≤ k → table ≡ sets before 0 (table_of S)
  unfolding table_of
  tabled-words h = rw (drop_of_length-le S {i = k} h) at w.rest

  pub tabled-over : length S ≤ k → 5 * length S ≤ length before → (copy : List ℕ) → begins (copy_of S) copy ≡ true →
      modules_in (take (5 * length S) table) copy ≡ modules_of S
  unfolding table_of
  tabled-over h room copy b =
      let all = rows_over S 0 in
      let z : 0 + length all ≡ 5 * length S = omega (arith, rows_long 0 S) in
      let done : table ≡ all ++ drop (5 * length S) before =
      tabled-words h ∙ (sets-eq all before 0 (omega arith) ∙ rw z) in
      rw (done, take_at all (drop (5 * length S) before) (5 * length S) (rows_long 0 S)) (table-back S copy b)

  pub tabled-next :
      k < length S → (r : List ℕ) → r ≡ (member_at S k).bytes → (table' : List ℕ) → table' ≡ sets table (5 * k) (row_of r at) →
      (n : ℕ) → n ≡ length (code_of r) → n ≤ 4096 → Tabled S before table' (at + n) (k + 1)
  tabled-next h r e table' q n s few =
      let others = rows_over (drop (k + 1) S) (at + n) in
      let turn : rows_over (drop k S) at ≡ row_of r at ++ others = rw (s, e, drop-cons S k no_member h, add-one k) in
      let place : 5 * (k + 1) ≡ 5 * k + length (row_of r at) = omega arith in
      record {
        rest = rw q (sets_behind table (5 * k) (5 * (k + 1)) (row_of r at) others place ∙ (rw turn at w.rest));
        kept = rw q (length-sets table (5 * k) (row_of r at) ∙ w.kept);
        small = omega (arith, w.small);
      }

-- A record by itself.
pub words-alone : (r table table' : List ℕ) → table' ≡ sets table 0 (row_of r 0) → table' ≡ sets table 0 (table_of (single r []))
unfolding table_of
words-alone r table table' q = q

pub table-alone : (r table table' : List ℕ) → set_number (single r []) ≡ 0 → length table ≡ 5 →
    table' ≡ sets table 0 (row_of r 0) → modules_in table' (code_of r) ≡ modules_of (single r [])
table-alone r table table' e l q =
    let all : begins (code_of r) (code_of r) ≡ true = takes-begins (code_of r) (code_of r) (take-length (code_of r)) in
    let held : table' ≡ rows_over (single r []) 0 =
    q ∙ (sets-eq (row_of r 0) table 0 (omega arith) ∙ rw (drop_of_length-le table {i = 0 + 5} (omega arith))) in
    rw held (table-back (single r []) (code_of r) (rw (copy-alone r [] e) all))
