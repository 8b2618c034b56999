-- Steps that complete, by what their effect pops, pushes and writes.
use mathlib.Core.Path.{◌≡◌, refl}
use mathlib.Core.List.{List}
use Prim.Native.Nat.{ℕ, ◌+◌, ◌-◌, ◌≤◌, ◌<◌}
use native.Mathlib.Numerals.{add-one}
use native.Mathlib.Omega.{arith}
use lib.ListN.{length, set}
use Rattle.opcode.specs.Decode.{decode_at}
use Rattle.std.specs.Prelude.{Ok}
use Rattle.opcode.specs.declared.instruction.Instruction.{Instruction}
use Rattle.shape.specs.Shape.{needed}
use Rattle.effect.specs.declared.effect.Push.{Push}
use Rattle.effect.specs.declared.effect.Push.TheVariants.{NoPush, PushOne, PushTwo}
use Rattle.effect.specs.declared.effect.Write.{Write}
use Rattle.effect.specs.declared.effect.Write.TheVariants.{NoWrite, WriteOne, WriteTwo}
use Rattle.effect.specs.declared.effect.Effect.TheVariants.{Go}
use Rattle.registers.specs.declared.Registers.{Registers}
use Rattle.registers.specs.Program.{Program}
use Rattle.registers.specs.Changes.{moved}
use Rattle.execute.specs.Execute.{executed}
use Rattle.step.specs.declared.Outcome.TheVariants.{Went}
use Rattle.step.specs.Step.{after, step_of}
use Rattle.fast.specs.Fast.{Spot, spot, state_at}
use Rattle.fast.proofs.Goes.{goes}

-- The step from T ends in N, within the code.
abbrev pub Ends : Program → Registers → (T N : Spot) → Type 0
Ends P q T N = (N.pc < length P.code) × (step_of P (state_at q T) ≡ after Went (state_at q N))

-- `low` is where the words that go began.
module _ (P : Program) (q : Registers) (pc h : ℕ) (m s : List ℕ) (i : Instruction) (next place : ℕ)
    (d : decode_at P.code (length P.code) pc ≡ Ok (i, next)) (enough : needed i ≤ h) (stays : q.gp ≡ P.attributes.globals)
    (inside : place < length P.code) where
  abbrev T : Spot
  T = spot pc h m s

  abbrev Is : ℕ → Push → Write → Type 0
  Is pops push write = executed P (state_at q T) next i ≡ Go pops push write (moved (state_at q T).registers place)

  pub gives_one : (pops low h' x : ℕ) → low ≡ h - pops → h' ≡ low + 1 → Is pops (PushOne x) NoWrite → low < length s
      → Ends P q T (spot place h' m (set s low x))
  gives_one pops low h' x l k e room =
      goes P q T (spot place h' m (set s low x)) i next pops (PushOne x) NoWrite d enough e (omega arith) stays inside (omega arith)
      refl (rw l)

  pub gives-two : (pops low h' x y : ℕ) → low ≡ h - pops → h' ≡ low + 2 → Is pops (PushTwo x y) NoWrite → low + 1 < length s
      → Ends P q T (spot place h' m (set (set s low x) (low + 1) y))
  gives-two pops low h' x y l k e room =
      goes P q T (spot place h' m (set (set s low x) (low + 1) y)) i next pops (PushTwo x y) NoWrite d enough e (omega arith)
      stays inside
      (omega arith) refl (rw (← l, add-one))

  pub gives_none : (pops h' : ℕ) → h' ≡ h - pops → Is pops NoPush NoWrite → h ≤ length s → Ends P q T (spot place h' m s)
  gives_none pops h' l e room =
      goes P q T (spot place h' m s) i next pops NoPush NoWrite d enough e (omega arith) stays inside (omega arith) refl refl

  pub stores_one : (pops h' a x : ℕ) → h' ≡ h - pops → Is pops NoPush (WriteOne a x) → h ≤ length s
      → Ends P q T (spot place h' (set m a x) s)
  stores_one pops h' a x l e room =
      goes P q T (spot place h' (set m a x) s) i next pops NoPush (WriteOne a x) d enough e (omega arith) stays inside (omega arith)
      refl refl

  pub stores-two : (pops h' a x y : ℕ) → h' ≡ h - pops → Is pops NoPush (WriteTwo a x y) → h ≤ length s
      → Ends P q T (spot place h' (set (set m a x) (a + 1) y) s)
  stores-two pops h' a x y l e room =
      goes P q T (spot place h' (set (set m a x) (a + 1) y) s) i next pops NoPush (WriteTwo a x y) d enough e (omega arith)
      stays inside
      (omega arith) (rw add-one) refl

  pub stores-and-gives : (a x y : ℕ) → Is 0 (PushOne y) (WriteOne a x) → h < length s
      → Ends P q T (spot place (h + 1) (set m a x) (set s h y))
  stores-and-gives a x y e room =
      let none : h - 0 ≡ h = omega arith in
      goes P q T (spot place (h + 1) (set m a x) (set s h y)) i next 0 (PushOne y) (WriteOne a x) d enough e (omega arith)
      stays inside
      (omega arith) refl (rw none)
