-- Looking a key up in a table of rows.
use mathlib.Core.Bool.{Bool, true, false, cond, ◌&&◌, and-eq-true_iff}
use mathlib.Core.Path.{◌≡◌, refl}
use mathlib.Core.List.{List, [], ◌∷◌, ◌++◌}
use Prim.Native.Nat.{ℕ, ◌+◌, ◌*◌, ◌/◌, ◌<◌, ◌≤◌}
use native.Mathlib.Omega.{arith}
use borrow.Author.Tests.{ne_eqb, eqb-true}
use lib.Dec.{eqb, ltb}
use Rattle.words.proofs.Tests.{either}
use Rattle.words.proofs.Arms.{Other, past}
use Rattle.operand.specs.Operand.{none, fixed_of, each_of}
use Rattle.opcode.specs.Decode.{made}
use Rattle.opcode.specs.declared.instruction.Mode.{Mode}
use Rattle.opcode.specs.declared.instruction.Instruction.TheVariants.{Nop}
use Rattle.opcode.specs.Table.{Row, row, unserved, normal, both, Entry, entry, find, row_of}
use Rattle.opcode.specs.Table.{short_table, data_table, operation_table, control_table}

-- A key is none of a table's, as the last arm of a match has it, behind what was known before.
abbrev pub Passed : Type 0 → List Entry → ℕ → Type 0
Passed before [] key = before
Passed before (entry k r ∷ rest) key = Passed (before × (key ≡ k → ⊥)) rest key

passed : {before : Type 0} (t u : List Entry) (key : ℕ) → Passed before t key → before × (find (t ++ u) key ≡ find u key)
passed [] u key p = (p, refl)
passed (entry k r ∷ rest) u key p =
    let q = passed rest u key p in
    (q.0.0, rw (ne_eqb key k q.0.1) q.1)

-- A key that is none of those of a table's first part is looked up in the rest.
pub find-rest : (t u : List Entry) (key : ℕ) → Passed (Unit {0}) t key → find (t ++ u) key ≡ find u key
find-rest t u key p = (passed t u key p).1

seven : (n : ℕ) → n < 128 → 7 ≤ n / 16 → n / 16 ≡ 7
seven n h l = omega arith

-- The first digit of a code below 80 that is none of 0 to 6.
pub digit-seven : (n : ℕ) → n < 128 → Other 7 (n / 16) → n / 16 ≡ 7
digit-seven n h o = seven n h (past 7 (n / 16) o)

-- NOP and a code that is not served make the same.
pub rest-nop :
    (b : Bool) (m : Mode) (code : List ℕ) (at : ℕ) → Nop ≡ made (cond b (row none normal (λ m n k. Nop)) unserved) m code at
rest-nop true m code at = refl
rest-nop false m code at = refl

-- What holds of every row of a table with its key holds of the row that is found.
abbrev pub Every : (ℕ → Row → Type 0) → List Entry → Type 0
Every P [] = Unit {0}
Every P (entry k r ∷ rest) = P k r × Every P rest

picked : (P : ℕ → Row → Type 0) (key k : ℕ) (r s : Row) (b : Bool) → eqb key k ≡ b → P k r → P key s → P key (cond b r s)
picked P key k r s true e p q = rw (eqb-true key k e) p
picked P key k r s false e p q = q

find-every : (P : ℕ → Row → Type 0) (t : List Entry) (key : ℕ) → P key unserved → Every P t → P key (find t key)
find-every P [] key u e = u
find-every P (entry k r ∷ rest) key u e = picked P key k r (find rest key) (eqb key k) refl e.0 (find-every P rest key u e.1)

-- The same of all codes; the short table has keys of another kind, first digits, so that nothing is said of them.
pub row-every :
    (P : ℕ → Row → Type 0) (code : ℕ) →
    P code unserved → Every (λ k. P code) short_table → Every P data_table → Every P operation_table → Every P control_table →
    P code (row_of code)
unfolding row_of
row-every P code u s d o c =
    either (P code) (eqb code 0x70) _ _ u
    (either (P code) (ltb code 0x80) _ _ (find-every (λ k. P code) short_table (code / 16) u s)
    (either (P code) (ltb code 0xA0) _ _ (find-every P data_table code u d)
    (either (P code) (ltb code 0xDA) _ _ (find-every P operation_table code u o) (find-every P control_table code u c))))

-- A test of every row of a table, with its key, by computing.
abbrev every : (ℕ → Row → Bool) → List Entry → Bool
every f [] = true
every f (entry k r ∷ rest) = f k r && every f rest

abbrev Passes : (ℕ → Row → Bool) → ℕ → Row → Type 0
Passes f k r = f k r ≡ true

all_pass : (f : ℕ → Row → Bool) (t : List Entry) → every f t ≡ true → Every (Passes f) t
all_pass f [] e = tt
all_pass f (entry k r ∷ rest) e =
    let p = (and-eq-true_iff (f k r) (every f rest)).0 e in
    (p.0, all_pass f rest p.1)

pub row-passes :
    (f : ℕ → Row → Bool) (code : ℕ) →
    f code unserved ≡ true →
    every (λ k. f code) short_table ≡ true → every f data_table ≡ true → every f operation_table ≡ true
    → every f control_table ≡ true →
    f code (row_of code) ≡ true
row-passes f code u s d o c =
    row-every (Passes f) code u (all_pass (λ k. f code) short_table s) (all_pass f data_table d) (all_pass f operation_table o)
    (all_pass f control_table c)

-- The fixed length of a served code is a digit, and no table stands behind one that DOUBLE may stand before.
abbrev pub Short : Row → Type 0
Short unserved = Unit {0}
Short (row operands normal make) = fixed_of operands < 16
Short (row operands both make) = fixed_of operands + 16 * each_of operands < 16

pub row-short : (code : ℕ) → Short (row_of code)
row-short code = row-every (λ k. Short) code tt (omega arith) (omega arith) (omega arith) (omega arith)
