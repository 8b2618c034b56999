-- A code without a number from 12 to 14 has no fault at any start, and the other way round: its tests look at just the starts.
use mathlib.Core.Bool.{Bool, true, false, ◌||◌, false≢true}
use mathlib.Core.List.{List}
use mathlib.Core.Path.{◌≡◌, refl, sym}
use Prim.Native.Nat.{ℕ, zero, suc, ◌+◌, ◌<◌, ◌≤◌}
use native.Mathlib.Omega.{arith}
use borrow.Author.Tests.{eqb-true, eq-eqb}
use lib.ListN.{length}
use Rattle.words.proofs.Refusal.{cleared}
use Rattle.entries.specs.Entries.{region_end}
use Rattle.entries.specs.Libraries.{Library}
use Rattle.opcode.specs.Decode.{decode_at}
use Rattle.opcode.specs.Decode.{Decoded}
use Rattle.opcode.specs.declared.DecodeError.TheVariants.{Unserved, Past}
use Rattle.std.specs.Prelude.{Err, Ok}
use Rattle.opcode.specs.declared.instruction.Instruction.{Instruction}
use Rattle.shape.specs.Shape.{shape_of}
use Rattle.layout.specs.Cut.{Marks, starts_in}
use Rattle.words.proofs.Left.{at_or_after}
use Rattle.faults.specs.Faults.{strays, misplaced, uncallable, FaultTest, test_in, test_at, any_from, anywhere, fault_tests}
use Rattle.faults.specs.Faults.{code_number}

none_from : (f : ℕ → Bool) (at n x : ℕ) → any_from f at n ≡ false → at ≤ x → x < at + n → f x ≡ false
none_from f at zero x e l u = absurd (omega arith)
none_from f at (suc n) x e l u =
    let both = apart (f at) (any_from f (at + 1) n) e in
    at_or_after (λ (k : ℕ). f k ≡ false) at x l both.0
    (λ (more : at < x). none_from f (at + 1) n x both.1 (omega arith) (omega arith))
  where
    apart : (a b : Bool) → (a || b) ≡ false → (a ≡ false) × (b ≡ false)
    apart true b e = (e, absurd (false≢true (sym e)))
    apart false b e = (refl, e)

nowhere-from : (f : ℕ → Bool) (at n : ℕ) → ((x : ℕ) → x < at + n → f x ≡ false) → any_from f at n ≡ false
nowhere-from f at zero h = refl
nowhere-from f at (suc n) h = rw (h at (omega arith)) (nowhere-from f (at + 1) n (λ x l. h x (omega arith)))

module _ (code : List ℕ) (marks : Marks) (test : FaultTest) where
  -- The test at every start.
  abbrev pub Passing : Type 0
  Passing =
      (p at : ℕ) (i : Instruction) (next : ℕ) → starts_in marks p at ≡ true → decode_at code (region_end code p) at ≡ Ok (i, next)
      → test p at next (shape_of i) ≡ false

  nowhere-passing : anywhere code marks test ≡ false → ((p at : ℕ) → starts_in marks p at ≡ true → at < length code) → Passing
  unfolding anywhere
  nowhere-passing e inside p at i next s d =
      let mark : marks at ≡ suc p = omega (arith, eqb-true (marks at) (p + 1) s) in
      rw (mark, d) at
      (none_from (λ (x : ℕ). test_at code (marks x) test x) 0 (length code) at e (omega arith) (omega (arith, inside p at s)))

  passing-nowhere : Passing → anywhere code marks test ≡ false
  unfolding anywhere
  passing-nowhere pass = nowhere-from (λ (x : ℕ). test_at code (marks x) test x) 0 (length code) (λ x l. marked x (marks x) refl)
    where
      decodes : (p x : ℕ) → starts_in marks p x ≡ true → (d : Decoded) → decode_at code (region_end code p) x ≡ d
          → test_in test p x d ≡ false
      decodes p x s (Err Unserved) e = refl
      decodes p x s (Err Past) e = refl
      decodes p x s (Ok (i, next)) e = pass p x i next s e

      marked : (x m : ℕ) → marks x ≡ m → test_at code m test x ≡ false
      marked x zero e = refl
      marked x (suc p) e =
          decodes p x (eq-eqb (marks x) (p + 1) (omega (arith, e))) (decode_at code (region_end code p) x) refl

-- Each of the three tests at every start.
pub record Faultless (code : List ℕ) (libraries : List Library) (marks : Marks) : Type 0 where
  pub no_stray : Passing code marks (strays code marks)
  pub in_place : Passing code marks (misplaced code)
  pub callable : Passing code marks (uncallable code libraries)

module _ (code : List ℕ) (libraries : List Library) (marks : Marks) where
  pub faultless : code_number code libraries marks ≡ 0 → ((p at : ℕ) → starts_in marks p at ≡ true → at < length code)
      → Faultless code libraries marks
  unfolding code_number
  faultless e inside =
      let c = cleared (fault_tests code libraries marks) refl e in
      record {
        no_stray = nowhere-passing code marks (strays code marks) c.0 inside;
        in_place = nowhere-passing code marks (misplaced code) c.1.0 inside;
        callable = nowhere-passing code marks (uncallable code libraries) c.1.1.0 inside;
      }

  pub numberless-code : Faultless code libraries marks → code_number code libraries marks ≡ 0
  unfolding code_number
  numberless-code F =
      rw (
        passing-nowhere code marks (strays code marks) F.no_stray,
        passing-nowhere code marks (misplaced code) F.in_place,
        passing-nowhere code marks (uncallable code libraries) F.callable,
      )
