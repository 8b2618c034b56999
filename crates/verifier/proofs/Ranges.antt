-- Which numbers each test of the check can give: up to 9, 17 or 18 before codes are cut, 10 or 11 from the cut, 12 to 14
-- behind it.
use mathlib.Core.Bool.{Bool, true, false, cond, not}
use mathlib.Core.List.{List, [], ◌∷◌}
use mathlib.Core.Path.{◌≡◌, refl, subst}
use Prim.Native.Nat.{ℕ, zero, suc, ◌+◌, ◌-◌, ◌≤◌}
use native.Mathlib.Omega.{arith}
use lib.Dec.{eqb, ltb}
use lib.ListN.{length}
use Rattle.entries.specs.Entries.{entry_at, entry_count, region_end}
use Rattle.entries.specs.Libraries.{Library}
use Rattle.words.specs.Refusal.{refusal}
use Rattle.words.proofs.Refusal.{most}
use Rattle.words.proofs.Tests.{either}
use Rattle.header.specs.Header.{code_of}
use Rattle.record.specs.Number.{record_number}
use Rattle.record.proofs.Sound.{record-range}
use Rattle.module_set.specs.Members.{Members}
use Rattle.module_set.specs.Linked.{every_member, records_number, linked}
use Rattle.relocation.specs.Relocation.{relocation_sound, set_number}
use Rattle.opcode.specs.Decode.{decode_at}
use Rattle.opcode.specs.Decode.{Decoded}
use Rattle.opcode.specs.declared.DecodeError.TheVariants.{Unserved, Past}
use Rattle.std.specs.Prelude.{Err, Ok}
use Rattle.layout.specs.Cut.{Marks, Cut, bad, cut, cut_at, cut_from, then_cut, cut_procedures, cut_of, updated}
use Rattle.faults.specs.Faults.{fault_tests, code_number}
use Rattle.verifier.specs.Check.{libraries_of, list_tests, list_number, bad_number, fault_number, cut_number, codes_number, fault_in}
use Rattle.verifier.proofs.Firsts.{first_range, lowest-range}

records-range : (S : Members) → records_number S ≤ 7
unfolding records_number
records-range [] = let z : 1 ≤ 7 = omega arith in z
records-range (M ∷ S) = lowest-range (λ X. record_number X.bytes) 7 (λ X. record-range X.bytes) (M ∷ S)

-- What holds of these numbers holds of the set's.
pub set-by : (P : ℕ → Type 0) → ((n : ℕ) → n ≤ 7 → P n) → P 17 → P 18 → (S : Members) → P (set_number S)
unfolding set_number
set-by P low linking relocating S =
    either P (eqb (records_number S) 0) _ (records_number S)
    (either P (not (linked S)) 17 _ linking
    (either P (not (every_member (λ M. relocation_sound M.bytes) S)) 18 0 relocating (low 0 (omega arith))))
    (low (records_number S) (records-range S))

pub list-by : (P : ℕ → Type 0) → ((n : ℕ) → n ≤ 9 → P n) → P 17 → P 18 → (S : Members) (own room : ℕ) → P (list_number S own room)
unfolding list_number
list-by P low linking relocating S own room =
    either P (eqb (set_number S) 0) (refusal (list_tests S own room)) (set_number S)
    (low (refusal (list_tests S own room)) (most 9 (list_tests S own room) refl))
    (set-by P (λ n h. low n (omega arith)) linking relocating S)

pub list-range : (S : Members) (own room : ℕ) → list_number S own room ≤ 18
list-range = list-by (λ (n : ℕ). n ≤ 18) (λ n h. omega arith) (omega arith) (omega arith)

pub list-no-15 : (S : Members) (own room : ℕ) → list_number S own room ≡ 15 → ⊥
list-no-15 = list-by (λ (n : ℕ). n ≡ 15 → ⊥) (λ n h e. omega arith) (λ e. omega arith) (λ e. omega arith)

pub code-range : (code : List ℕ) (libraries : List Library) (marks : Marks) → code_number code libraries marks ≤ 14
unfolding code_number
code-range code libraries marks = most 14 (fault_tests code libraries marks) refl

-- A cut that is bad has number 10 or 11.
pub data Proper : Cut → Type 0 where
  proper-bad : {n : ℕ} → 10 ≤ n → n ≤ 11 → Proper (bad n)
  proper-cut : {marks : Marks} → Proper (cut marks)

proper-then : (go : Marks → Cut) → ((marks : Marks) → Proper (go marks)) → {c : Cut} → Proper c → Proper (then_cut go c)
proper-then go rest (proper-bad a b) = proper-bad a b
proper-then go rest (proper-cut {marks}) = rest marks

proper-from : (code : List ℕ) (p n at : ℕ) (marks : Marks) → Proper (cut_from code p n at marks)
proper-from code p zero at marks = proper-cut
proper-from code p (suc n) at marks =
    by (ltb at (region_end code p)) (decode_at code (region_end code p) at) (λ next m. proper-from code p n next m)
  where
    by : (b : Bool) (d : Decoded) → ((next : ℕ) (m : Marks) → Proper (cut_from code p n next m))
        → Proper (cond b (cut_at (cut_from code p n) p at marks d) (cut marks))
    by true (Err Unserved) go = proper-bad {n = 10} (omega arith) (omega arith)
    by true (Err Past) go = proper-bad {n = 11} (omega arith) (omega arith)
    by true (Ok (i, next)) go = go next (updated marks at (p + 1))
    by false d go = proper-cut

proper-procedures : (code : List ℕ) (p n : ℕ) (marks : Marks) → Proper (cut_procedures code p n marks)
proper-procedures code p zero marks = proper-from code 0 (length code) (entry_at code 0) marks
proper-procedures code p (suc n) marks =
    proper-then (cut_procedures code (p + 1) n) (proper-procedures code (p + 1) n)
    (proper-from code p (length code) (entry_at code p) marks)

pub proper : (code : List ℕ) → Proper (cut_of code)
unfolding cut_of
proper code = proper-procedures code 1 (entry_count code - 1) (λ at. 0)

bad-proper : {n : ℕ} → Proper (bad n) → (10 ≤ n) × (n ≤ 11)
bad-proper (proper-bad a b) = (a, b)

pub proper-marks : {c : Cut} → Proper c → bad_number c ≡ 0 → (marks : Marks) × (c ≡ cut marks)
proper-marks (proper-bad a b) e = absurd (omega arith)
proper-marks (proper-cut {marks}) e = (marks, refl)

pub cut_range : (code : List ℕ) (n : ℕ) → cut_of code ≡ bad n → (10 ≤ n) × (n ≤ 11)
cut_range code n e = bad-proper (subst Proper e (proper code))

cut_small : (code : List ℕ) → bad_number (cut_of code) ≤ 14
cut_small code = by (proper code)
  where
    by : {c : Cut} → Proper c → bad_number c ≤ 14
    by (proper-bad a b) = omega arith
    by proper-cut = let z : 0 ≤ 14 = omega arith in z

fault-small : (code : List ℕ) (libraries : List Library) (c : Cut) → fault_number code libraries c ≤ 14
fault-small code libraries (bad n) = let z : 0 ≤ 14 = omega arith in z
fault-small code libraries (cut marks) = code-range code libraries marks

pub codes-range : (S : Members) → codes_number S ≤ 14
unfolding codes_number cut_number
codes-range S =
    either (λ (n : ℕ). n ≤ 14) (eqb (cut_number S) 0) _ (cut_number S)
    (lowest-range (fault_in S) 14 (λ M. fault-small (code_of M.bytes) (libraries_of S M.bytes) (cut_of (code_of M.bytes))) S)
    (first_range (λ M. bad_number (cut_of (code_of M.bytes))) 14 (λ M. cut_small (code_of M.bytes)) S)
