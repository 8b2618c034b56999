-- The check's answer by cases: a number up to 9, 17 or 18, then one of 10 to 14, then the walk; and that it is at most 18.
use mathlib.Core.Path.{◌≡◌, refl}
use mathlib.Core.List.{List}
use mathlib.Core.Option.{Option, none, some}
use Prim.Native.Nat.{ℕ, zero, suc, ◌≤◌}
use native.Mathlib.Omega.{arith}
use lib.Dec.{eqb-suc-zero}
use lib.ListN.{length}
use Rattle.module_set.specs.Members.{Members, member_at}
use Rattle.workspace.specs.Checking.{checking}
use Rattle.layout.specs.Cut.{Cut, bad, cut, cut_of}
use Rattle.stackmap.specs.Walk.{States, walk_of}
use Rattle.verifier.specs.Check.{libraries_of, list_number, subject_of, walked, codes_number, verdict_of, concluded, set_check}
use Rattle.verifier.specs.Check.{refuted, judged}
use Rattle.verifier.specs.Exact.{code_at}
use Rattle.verifier.proofs.Ranges.{list-range, codes-range, cut_range}
use Rattle.verifier.proofs.Records.{Listed, listed}

module _ (S : Members) (own : ℕ) where
  -- What the check answers: a number before any code is cut, or what its verdict says.
  pub data Answers (w : List ℕ) : Type 0 where
    early : (n : ℕ) → list_number S own (length w) ≡ suc n → set_check S own w ≡ checking (suc n) w → Answers w
    late : Listed S own (length w) → set_check S own w ≡ concluded (length (code_at S own)) w (verdict_of S own) → Answers w

  pub answers : (w : List ℕ) → Answers w
  unfolding set_check
  answers w = by (list_number S own (length w)) refl
    where
      by : (n : ℕ) → list_number S own (length w) ≡ n → Answers w
      by zero e = late (listed S own (length w) e) (rw e)
      by (suc n) e = early n e (rw (e, eqb-suc-zero n))

  -- The verdict: a number of some module, or the walk of the own one.
  pub data Judged : Type 0 where
    faulty : (n : ℕ) → codes_number S ≡ suc n → verdict_of S own ≡ refuted (suc n) → Judged
    sound-codes : codes_number S ≡ 0
        → verdict_of S own
        ≡ judged (code_at S own) (libraries_of S (member_at S own).bytes) (member_at S own).results (cut_of (code_at S own)) → Judged

  pub judgement : Judged
  unfolding verdict_of
  judgement = by (codes_number S) refl
    where
      by : (n : ℕ) → codes_number S ≡ n → Judged
      by zero e = sound-codes e (rw e)
      by (suc n) e = faulty n e (rw (e, eqb-suc-zero n))

  -- The check's numbers are at most 18.
  pub check-range : (w : List ℕ) → (set_check S own w).number ≤ 18
  check-range w = by (answers w)
    where
      walks : (o : Option States) → (concluded (length (code_at S own)) w (walked o)).number ≤ 18
      walks none = let z : 15 ≤ 18 = omega arith in z
      walks (some σ) = let z : 0 ≤ 18 = omega arith in z

      cuts : (c : Cut) → cut_of (code_at S own) ≡ c
          → (concluded (length (code_at S own)) w
          (judged (code_at S own) (libraries_of S (member_at S own).bytes) (member_at S own).results c)).number ≤ 18
      cuts (bad n) c = let z = cut_range (code_at S own) n c in omega arith
      cuts (cut marks) c =
          walks (walk_of (subject_of (code_at S own) (libraries_of S (member_at S own).bytes) (member_at S own).results marks))

      verdict : Judged → (concluded (length (code_at S own)) w (verdict_of S own)).number ≤ 18
      verdict (faulty n e v) = rw v (omega (arith, e, codes-range S))
      verdict (sound-codes e v) = rw v (cuts (cut_of (code_at S own)) refl)

      by : Answers w → (set_check S own w).number ≤ 18
      by (early n f g) = rw g (omega (arith, f, list-range S own (length w)))
      by (late L g) = rw g (verdict judgement)
