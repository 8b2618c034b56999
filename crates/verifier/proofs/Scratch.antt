-- A code cut in a workspace that was used before: the marks that are left go first, so that the number is the cut's, and the
-- marks are its marks.
use mathlib.Core.Bool.{true}
use mathlib.Core.List.{List}
use mathlib.Core.Path.{◌≡◌, ◌∙◌, refl, sym, ap}
use Prim.Native.Nat.{ℕ, zero, suc, ◌+◌, ◌*◌, ◌≤◌, ◌<◌}
use native.Mathlib.Omega.{arith}
use lib.ListN.{length, get_or}
use Rattle.entries.specs.Entries.{entries_sound}
use Rattle.entries.specs.Libraries.{Library}
use Rattle.workspace.specs.Checking.{Checking, checking}
use Rattle.layout.specs.Cut.{bad, cut, cut_of}
use Rattle.layout.specs.Workspace.{marks_in, mark_all}
use Rattle.layout.proofs.Marking.{marking-cuts, marking-refuses}
use Rattle.faults.specs.Faults.{code_number}
use Rattle.verifier.specs.Check.{bad_number, fault_number}
use Rattle.verifier.specs.Examine.{unmarked}
use Rattle.verifier.proofs.Showing.{unmarked-length, unmarked-mark}

module _ (code w : List ℕ) (e : entries_sound code ≡ true) (room : 4 * length code ≤ length w)
    (n : ℕ) (u : List ℕ) (marked : checking n u ≡ mark_all code (unmarked 0 (length code) w)) where
  abbrev blank : List ℕ
  blank = unmarked 0 (length code) w

  wide : 4 * length code ≤ length (unmarked 0 (length code) w)
  wide = omega (arith, unmarked-length 0 (length code) w)

  clean : (at : ℕ) → at < length code → get_or (unmarked 0 (length code) w) (4 * at + 3) 0 ≡ 0
  clean at h = unmarked-mark 0 (length code) w at (omega arith) (omega arith) (omega arith)

  number : (mark_all code (unmarked 0 (length code) w)).number ≡ n
  number = sym (ap (λ (c : Checking). c.number) marked)

  left : (mark_all code (unmarked 0 (length code) w)).workspace ≡ u
  left = sym (ap (λ (c : Checking). c.workspace) marked)

  is_cut : n ≡ 0 → cut_of code ≡ cut (marks_in u (length code))
  is_cut z =
      marking-cuts code e (unmarked 0 (length code) w) wide clean (number ∙ z)
      ∙ ap (λ (v : List ℕ). cut (marks_in v (length code))) left

  is-bad : (k : ℕ) → n ≡ suc k → cut_of code ≡ bad (suc k)
  is-bad k z = marking-refuses code e (unmarked 0 (length code) w) wide clean k (number ∙ z)

  pub marked-bad : n ≡ bad_number (cut_of code)
  marked-bad = by n refl
    where
      by : (k : ℕ) → n ≡ k → n ≡ bad_number (cut_of code)
      by zero z = z ∙ sym (ap bad_number (is_cut z))
      by (suc k) z = z ∙ sym (ap bad_number (is-bad k z))

  module _ (libraries : List Library) where
    pub marked-uncut : (n ≡ 0 → ⊥) → 0 ≡ fault_number code libraries (cut_of code)
    marked-uncut some = by n refl
      where
        by : (k : ℕ) → n ≡ k → 0 ≡ fault_number code libraries (cut_of code)
        by zero z = absurd (some z)
        by (suc k) z = sym (ap (fault_number code libraries) (is-bad k z))

    pub marked-fault : n ≡ 0 → (f : ℕ) → f ≡ code_number code libraries (marks_in u (length code))
        → f ≡ fault_number code libraries (cut_of code)
    marked-fault z f g = g ∙ sym (ap (fault_number code libraries) (is_cut z))
