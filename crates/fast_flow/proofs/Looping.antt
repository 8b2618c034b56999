-- ITER and NEXT that complete: past the loop or into it, the loop variable being live and never protected.
use mathlib.Core.Path.{◌≡◌, ◌∙◌, refl}
use mathlib.Core.Bool.{Bool, true, false}
use mathlib.Core.List.{List}
use Prim.Native.Nat.{ℕ, ◌+◌, ◌-◌, ◌≤◌, ◌<◌}
use native.Mathlib.Omega.{arith}
use lib.ListN.{length, set}
use mir.Syntax.{w32}
use mir.Val.{to_z}
use borrow.Author.Tests.{le-leb}
use Rattle.operand.specs.Distance.{place_at}
use Rattle.opcode.specs.declared.instruction.Instruction.TheVariants.{Iter, Next}
use Rattle.shape.specs.Shape.{shape_of}
use Rattle.effect.specs.declared.effect.Push.TheVariants.{NoPush}
use Rattle.effect.specs.declared.effect.Write.TheVariants.{WriteOne}
use Rattle.effect.specs.declared.effect.Effect.TheVariants.{Go}
use Rattle.registers.specs.declared.Attributes.{Attributes}
use Rattle.registers.specs.declared.Registers.{Registers}
use Rattle.registers.specs.Modules.{Modules}
use Rattle.registers.specs.Program.{Program, program}
use Rattle.registers.specs.Memory.{read, live, protects}
use Rattle.registers.specs.Changes.{moved}
use Rattle.control.specs.Control.{beyond, iter_effect, next_sum, round_effect, next_effect}
use Rattle.execute.specs.Execute.{executed}
use Rattle.execute.proofs.Top.{iter-found, next-found}
use Rattle.step.specs.Ready.{Ready}
use Rattle.fast.specs.Fast.{Spot, spot, state_at, plain, Became, Did}
use Rattle.fast.proofs.Goes.{did}
use Rattle.fast.proofs.Forms.{stores_one, stores-and-gives}
use Rattle.fast.proofs.Plain.{ready-fitting, plain-free}
use Rattle.fast.specs.Fast.{Decodes}
use Rattle.fast_flow.proofs.Jumping.{Going, going}
use Rattle.std.specs.Prelude.{Ok}

-- Whether a loop with this step and last value is over at x.
abbrev over : (step x last : ℕ) → Bool
over step x last = beyond (to_z w32 step) (to_z w32 x) (to_z w32 last)

module _ (code : List ℕ) (A : Attributes) (q : Registers) (pc h : ℕ) (m s : List ℕ) (next : ℕ) where
  abbrev L : Modules → Program
  L = program code A

  abbrev T : Spot
  T = spot pc h m s

  abbrev r : Registers
  r = (state_at q T).registers

  stays : (Ms : Modules) → Ready (L Ms) (state_at q T) → q.gp ≡ A.globals
  stays Ms R = (ready-fitting (L Ms) (state_at q T) R).global

  pub iter-skips : (size : ℕ) (sized : length code ≡ size) (room : h ≤ length s) (d : ℕ) → Decodes code pc (Iter d) next → 4 ≤ h
      → over (read s (h - 1)) (read s (h - 3)) (read s (h - 2)) ≡ true
      → Going code A q pc h m s room size sized next (place_at pc d) (h - 4)
  unfolding shape_of iter_effect
  iter-skips size sized room d stands four e =
      going code A q pc h m s room size sized next (Iter d) 4 (place_at pc d) (h - 4) stands four refl
      (λ Ms. iter-found (L Ms) r m s next d four ∙ rw e)

  -- NEXT with the sum x.
  module _ (size : ℕ) (sized : length code ≡ size) (room : h ≤ length s) (a x : ℕ) (stands : Decodes code pc Next next)
      (five : 5 ≤ h)
      (e : (Ms : Modules) → Ready (L Ms) (state_at q T) → executed (L Ms) (state_at q T) next Next
      ≡ round_effect r next a (read s (h - 3)) (read s (h - 2)) (read s (h - 1)) x) where
    -- What stored x and went to a place, where it is within the code, did a step.
    abbrev Storing : (place height : ℕ) → Type 0
    Storing place height =
        (t : Bool) (T' : Spot) → Became t (place < size) T (spot place height (set m a x) s) T' → Did t L q T T'

    storing : (pops place height : ℕ) → height ≡ h - pops
        → ((Ms : Modules) → Ready (L Ms) (state_at q T) → executed (L Ms) (state_at q T) next Next
        ≡ Go pops NoPush (WriteOne a x) (moved r place)) → Storing place height
    unfolding shape_of
    storing pops place height l does t T' =
        did t L q _ T _ T'
        (λ Ms R c. stores_one (L Ms) q pc h m s Next next place stands five (stays Ms R) (omega (arith, sized)) pops height a x
        l (does Ms R) room)

    pub round-ends : over (read s (h - 2)) x (read s (h - 3)) ≡ true → Storing next (h - 5)
    round-ends past = storing 5 next (h - 5) refl (λ Ms R. e Ms R ∙ rw past)

    pub round-turns : over (read s (h - 2)) x (read s (h - 3)) ≡ false → Storing (read s (h - 1)) h
    round-turns past = storing 0 (read s (h - 1)) h (omega arith) (λ Ms R. e Ms R ∙ rw past)

  module _ (a : ℕ) (l : a < q.mp) (free : plain A q.fp a ≡ true) where
    unprotected : (Ms : Modules) → Ready (L Ms) (state_at q T) → protects Ms r m a ≡ false
    unprotected Ms R = plain-free (L Ms) (state_at q T) R a free

    pub iter-starts : (d first : ℕ) → Decodes code pc (Iter d) next → next < length code → 4 ≤ h → read s (h - 4) ≡ a
        → read s (h - 3) ≡ first → over (read s (h - 1)) first (read s (h - 2)) ≡ false → (t : Bool) (T' : Spot)
        → Became t (h < length s) T (spot next (h + 1) (set m a first) (set s h next)) T' → Did t L q T T'
    unfolding shape_of iter_effect live
    iter-starts d first stands inside four is-a is-first e t T' =
        did t L q _ T _ T'
        (λ Ms R room. stores-and-gives (L Ms) q pc h m s (Iter d) next next stands four (stays Ms R) inside a first next
        (iter-found (L Ms) r m s next d four
        ∙ rw (is-a, is-first, e, le-leb (a + 1) q.mp (omega arith), unprotected Ms R)) room)

    pub next-rounds : (x : ℕ) → 5 ≤ h → read s (h - 5) ≡ a → next_sum m a (read s (h - 2)) ≡ Ok x
        → (Ms : Modules) → Ready (L Ms) (state_at q T) → executed (L Ms) (state_at q T) next Next
        ≡ round_effect r next a (read s (h - 3)) (read s (h - 2)) (read s (h - 1)) x
    unfolding next_effect live
    next-rounds x five is-a e Ms R =
        next-found (L Ms) r m s next five ∙ rw (is-a, le-leb (a + 1) q.mp (omega arith), e, unprotected Ms R)
