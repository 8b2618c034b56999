-- The lowest number over the first offsets, one offset more at a time: `code_number` at the end.
use mathlib.Core.Bool.{Bool, true, false, ◌||◌, or-false, or_assoc}
use mathlib.Core.Path.{◌≡◌, refl, ◌∙◌, sym, ap}
use mathlib.Core.List.{List, [], ◌∷◌}
use Prim.Native.Nat.{ℕ, zero, suc, ◌+◌, ◌-◌}
use native.Mathlib.Omega.{arith}
use lib.ListN.{length}
use Rattle.words.specs.Refusal.{refusal, ◌when◌, lower}
use Rattle.words.proofs.Refusal.{lower-none}
use Rattle.entries.specs.Entries.{region_end}
use Rattle.entries.specs.Libraries.{Library}
use Rattle.opcode.specs.Decode.{decode_at}
use Rattle.opcode.specs.Decode.{Decoded}
use Rattle.std.specs.Prelude.{Err, Ok}
use Rattle.layout.specs.Cut.{Marks}
use Rattle.faults.specs.Faults.{FaultTest, test_in, test_at, any_from, anywhere, strays, misplaced, uncallable, code_number}
use Rattle.faults.specs.OnePass.{fault_of, fault_in, fault_at}

-- 12, 13 or 14 by three tests.
abbrev three : Bool → Bool → Bool → ℕ
three a b c = refusal (12 when a ∷ 13 when b ∷ 14 when c ∷ [])

-- The number of either is the lower number of the two.
lower-three : (a b c d e f : Bool) → three (a || d) (b || e) (c || f) ≡ lower (three a b c) (three d e f)
unfolding lower
lower-three true b c true e f = refl
lower-three true b c false true f = refl
lower-three true b c false false true = refl
lower-three true b c false false false = refl
lower-three false true c true e f = refl
lower-three false false true true e f = refl
lower-three false false false true e f = refl
lower-three false true c false true f = refl
lower-three false true c false false true = refl
lower-three false true c false false false = refl
lower-three false false true false true f = refl
lower-three false false false false true f = refl
lower-three false false true false false true = refl
lower-three false false true false false false = refl
lower-three false false false false false true = refl
lower-three false false false false false false = refl

any_last : (f : ℕ → Bool) (at n : ℕ) → any_from f at (suc n) ≡ (any_from f at n || f (at + n))
any_last f at zero = let e : at + 0 ≡ at = omega arith in rw e (or-false (f at))
any_last f at (suc n) =
    let e : at + suc n ≡ at + 1 + n = omega arith in
    rw e (ap (λ (b : Bool). f at || b) (any_last f (at + 1) n) ∙ sym (or_assoc (f at) (any_from f (at + 1) n) (f (at + 1 + n))))

module _ (code : List ℕ) (libraries : List Library) (marks : Marks) where
  abbrev three_in : ℕ → ℕ → Decoded → ℕ
  three_in p at d =
      three (test_in (strays code marks) p at d) (test_in (misplaced code) p at d) (test_in (uncallable code libraries) p at d)

  three-in : (p at : ℕ) (d : Decoded) → three_in p at d ≡ fault_in code libraries marks p at d
  unfolding fault_of
  three-in p at (Err e) = refl
  three-in p at (Ok (i, next)) = refl

  abbrev three_at : ℕ → ℕ → ℕ
  three_at m at =
      three (test_at code m (strays code marks) at) (test_at code m (misplaced code) at) (test_at code m (uncallable code libraries) at)

  -- What a mark's offset gives.
  at-marked : (m at : ℕ) → (m ≡ 0 → ⊥) → three_at m at ≡ fault_at code libraries marks (m - 1) at
  unfolding fault_at
  at-marked zero at h = absurd (h refl)
  at-marked (suc p) at h =
      let e : suc p - 1 ≡ p = omega arith in
      rw e (three-in p at (decode_at code (region_end code p) at))

  abbrev tested : FaultTest → ℕ → Bool
  tested test at = test_at code (marks at) test at

  -- The number over the first n offsets.
  unfoldable pub number_to : ℕ → ℕ
  number_to n =
      let any : FaultTest → Bool = λ test. any_from (tested test) 0 n in
      three (any (strays code marks)) (any (misplaced code)) (any (uncallable code libraries))

  number-next : (n : ℕ) → number_to (n + 1) ≡ lower (number_to n) (three_at (marks n) n)
  unfolding number_to
  number-next n =
      let s : n + 1 ≡ suc n = omega arith in
      let z : 0 + n ≡ n = omega arith in
      let any : (test : FaultTest) → any_from (tested test) 0 (suc n) ≡ (any_from (tested test) 0 n || tested test n) =
      λ test. rw z at (any_last (tested test) 0 n) in
      let any0 : FaultTest → Bool = λ test. any_from (tested test) 0 n in
      rw (s, any (strays code marks), any (misplaced code), any (uncallable code libraries))
      (lower-three
      (any0 (strays code marks)) (any0 (misplaced code)) (any0 (uncallable code libraries))
      (tested (strays code marks) n) (tested (misplaced code) n) (tested (uncallable code libraries) n))

  pub number-start : 0 ≡ number_to 0
  unfolding number_to
  number-start = refl

  module _ (at lowest m : ℕ) (l : lowest ≡ number_to at) (e : m ≡ marks at) where
    pub number-marked : (m ≡ 0 → ⊥) → lower lowest (fault_at code libraries marks (m - 1) at) ≡ number_to (at + 1)
    number-marked h = rw (l, ← at-marked m at h, e) (sym (number-next at))

    pub number-bare : m ≡ 0 → lowest ≡ number_to (at + 1)
    number-bare z = rw (number-next at, ← e, z, lower-none (number_to at)) l

  pub number-end : number_to (length code) ≡ code_number code libraries marks
  unfolding number_to code_number anywhere
  number-end = refl
