-- No number of 10 to 14 in any module is the rules up to 14 met; the own module examined in one go is then its verdict, and
-- so is a record by itself.
use mathlib.Core.Bool.{Bool, true, false, cond}
use mathlib.Core.List.{List, []}
use mathlib.Core.Path.{◌≡◌, ◌∙◌, refl, sym, ap}
use Prim.Native.Nat.{ℕ, zero, suc, ◌<◌}
use native.Mathlib.Omega.{arith}
use lib.Dec.{eqb, eqb-suc-zero}
use lib.ListN.{length}
use borrow.Author.Tests.{eqb-true, eqb-false, ne_eqb}
use Rattle.words.proofs.Refusal.{lower-none}
use Rattle.header.specs.Header.{code_of}
use Rattle.module_set.specs.Members.{Member, Members, member_at, single}
use Rattle.module_set.specs.Linked.{lowest_of}
use Rattle.module_set.proofs.Every.{lowest-clear}
use Rattle.relocation.specs.Relocation.{set_number}
use Rattle.relocation.proofs.Alone.{no-imports}
use Rattle.layout.specs.Cut.{Marks, Cut, bad, cut, cut_of}
use Rattle.faults.specs.Faults.{code_number}
use Rattle.stackmap.specs.Walk.{walk_of}
use Rattle.verifier.specs.Check.{libraries_of, walked, bad_number, fault_number, cut_number, codes_number, verdict_of, fault_in}
use Rattle.verifier.specs.Exact.{code_at, Ruled, subject}
use Rattle.verifier.specs.Examine.{examined_of}
use Rattle.verifier.specs.Tables.{Linkable}
use Rattle.verifier.proofs.Firsts.{first-clear, first-none, lowest-none}
use Rattle.verifier.proofs.Ranges.{proper, proper-marks, cut_range}

-- 10 or 11 of a module.
abbrev pub bad_in : Member → ℕ
bad_in M = bad_number (cut_of (code_of M.bytes))

module _ (S : Members) where
  none-given : codes_number S ≡ 0 → (cut_number S ≡ 0) × (lowest_of (fault_in S) S ≡ 0)
  unfolding codes_number
  none-given e = by (eqb (cut_number S) 0) refl e
    where
      by : (t : Bool) → eqb (cut_number S) 0 ≡ t → cond t (lowest_of (fault_in S) S) (cut_number S) ≡ 0
          → (cut_number S ≡ 0) × (lowest_of (fault_in S) S ≡ 0)
      by true q f = (eqb-true (cut_number S) 0 q, f)
      by false q f = absurd (eqb-false (cut_number S) 0 q f)

  -- The marks of a cut.
  abbrev marks_of : Cut → Marks
  marks_of (bad n) = λ at. 0
  marks_of (cut marks) = marks

  is_cut : (c : Cut) → (marks : Marks) × (c ≡ cut marks) → c ≡ cut (marks_of c)
  is_cut c (marks, e) = e ∙ rw e

  module _ (e : codes_number S ≡ 0) (k : ℕ) (h : k < length S) where
    each-cut : cut_of (code_at S k) ≡ cut (marks_of (cut_of (code_at S k)))
    unfolding cut_number
    each-cut =
        is_cut (cut_of (code_at S k)) (proper-marks (proper (code_at S k)) (first-clear bad_in S (none-given e).0 k h))

    each-in-order : code_number (code_at S k) (libraries_of S (member_at S k).bytes) (marks_of (cut_of (code_at S k))) ≡ 0
    each-in-order =
        sym (ap (fault_number (code_at S k) (libraries_of S (member_at S k).bytes)) each-cut)
        ∙ lowest-clear (fault_in S) S (none-given e).1 k h

  pub codes-ruled : Linkable S → codes_number S ≡ 0 → Ruled S
  codes-ruled L e =
      record {
        set_sound = L.numberless;
        lists_are_sound = L.fitting;
        marks = λ k. marks_of (cut_of (code_at S k));
        are_cut = each-cut e;
        in_order = each-in-order e;
      }

  pub ruled-codes : Ruled S → codes_number S ≡ 0
  unfolding codes_number cut_number
  ruled-codes R =
      let cuts : cut_number S ≡ 0 = first-none bad_in S (λ k h. ap bad_number (R.are_cut k h)) in
      rw cuts
      (lowest-none (fault_in S) S
      (λ k h. ap (fault_number (code_at S k) (libraries_of S (member_at S k).bytes)) (R.are_cut k h) ∙ R.in_order k h))

  -- Where the rules are met, the walk decides.
  pub ruled-walks : (R : Ruled S) (own : ℕ) → own < length S → verdict_of S own ≡ walked (walk_of (subject S R own))
  unfolding verdict_of
  ruled-walks R own h = rw (ruled-codes R, R.are_cut own h)

  pub examined-judged : Linkable S → (own : ℕ) → own < length S → codes_number S ≡ 0
      → examined_of (code_at S own) (libraries_of S (member_at S own).bytes) (member_at S own).results ≡ verdict_of S own
  unfolding examined_of
  examined-judged L own h e =
      let R = codes-ruled L e in
      let one : examined_of (code_at S own) (libraries_of S (member_at S own).bytes) (member_at S own).results
      ≡ walked (walk_of (subject S R own)) = rw (R.are_cut own h, R.in_order own h) in
      one ∙ sym (ruled-walks R own h)

-- A record by itself has no libraries.
module _ (r results : List ℕ) where
  abbrev S₁ : Members
  S₁ = single r results

  pub no-libraries : set_number (single r results) ≡ 0 → libraries_of (single r results) r ≡ []
  unfolding libraries_of
  no-libraries e = rw (no-imports r results e)

  -- Its numbers in one go are its verdict.
  pub examined-single : examined_of (code_of r) (libraries_of (single r results) r) results ≡ verdict_of (single r results) 0
  unfolding examined_of verdict_of codes_number cut_number
  examined-single = by (cut_of (code_of r)) refl
    where
      faults : (marks : Marks) → cut_of (code_of r) ≡ cut marks → (n : ℕ) → code_number (code_of r) (libraries_of S₁ r) marks ≡ n
          → examined_of (code_of r) (libraries_of S₁ r) results ≡ verdict_of S₁ 0
      faults marks c zero f = rw (c, f, lower-none 0)
      faults marks c (suc n) f = rw (c, f, lower-none (suc n), eqb-suc-zero n)

      by : (c : Cut) → cut_of (code_of r) ≡ c → examined_of (code_of r) (libraries_of S₁ r) results ≡ verdict_of S₁ 0
      by (bad n) c =
          let some : n ≡ 0 → ⊥ = λ e. omega (arith, cut_range (code_of r) n c) in
          let first : cut_number S₁ ≡ n = rw (c, ne_eqb n 0 some) in
          let all : codes_number S₁ ≡ n = rw (first, ne_eqb n 0 some) in
          rw (all, ne_eqb n 0 some, c)
      by (cut marks) c = faults marks c (code_number (code_of r) (libraries_of S₁ r) marks) refl
