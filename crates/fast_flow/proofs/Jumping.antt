-- Jumps and LEAVE that complete: they go to a place within the code, and at most the boolean or the label goes.
use mathlib.Core.Path.{◌≡◌, ◌∙◌, refl}
use mathlib.Core.Bool.{Bool}
use mathlib.Core.List.{List}
use Prim.Native.Nat.{ℕ, zero, suc, ◌+◌, ◌-◌, ◌≤◌, ◌<◌}
use native.Mathlib.Omega.{arith}
use lib.ListN.{length}
use borrow.Author.Tests.{lt-ltb, eq-eqb, ne_eqb}
use Rattle.words.specs.Bytes.{byte_at}
use Rattle.operand.specs.Operand.{unsigned, b}
use Rattle.operand.specs.Distance.{place_at}
use Rattle.opcode.specs.Table.{row_of}
use Rattle.opcode.specs.declared.instruction.Instruction.{Instruction}
use Rattle.opcode.specs.declared.instruction.Instruction.TheVariants.{Jump, JumpC, JumpT, JumpF, Leave}
use Rattle.shape.specs.Shape.{shape_of, needed}
use Rattle.effect.specs.declared.effect.Push.TheVariants.{NoPush}
use Rattle.effect.specs.declared.effect.Write.TheVariants.{NoWrite}
use Rattle.effect.specs.declared.effect.Effect.TheVariants.{Go}
use Rattle.registers.specs.declared.Attributes.{Attributes}
use Rattle.registers.specs.declared.Registers.{Registers}
use Rattle.registers.specs.Modules.{Modules}
use Rattle.registers.specs.Program.{Program, program}
use Rattle.registers.specs.Memory.{read}
use Rattle.registers.specs.Changes.{moved}
use Rattle.control.specs.Control.{jump_effect, jump_c_effect, jump_tf_effect}
use Rattle.execute.specs.Execute.{execute, executed}
use Rattle.execute.proofs.Top.{top-found}
use Rattle.fast.specs.Fast.{Spot, spot, state_at, Became, Did}
use Rattle.fast.proofs.Goes.{did}
use Rattle.fast.proofs.Plain.{ready-fitting}
use Rattle.fast.proofs.Forms.{gives_none}
use Rattle.fast.specs.Fast.{Decodes}
use Rattle.fast_flow.proofs.Standing.{stands}

-- JUMP_T and JUMP_F are one: the jump that keeps its boolean where it is `truth`.
abbrev pub flagged : (truth distance : ℕ) → Instruction
flagged zero d = JumpF d
flagged (suc n) d = JumpT d

pub flag-stands : (code : List ℕ) (A : Attributes) (pc truth : ℕ) → truth ≤ 1 → pc + 1 < length code
    → byte_at code pc ≡ 0xDF - truth
    → Decodes code pc (flagged truth (byte_at code (pc + 1))) (pc + 2)
unfolding row_of
flag-stands code A pc zero l within k =
    stands code A pc 0xDF (unsigned b) _ 2 refl refl (omega arith) (omega arith) (omega arith) k
flag-stands code A pc (suc zero) l within k =
    stands code A pc 0xDE (unsigned b) _ 2 refl refl (omega arith) (omega arith) (omega arith) k
flag-stands code A pc (suc (suc n)) l within k = absurd (omega arith)

module _ (code : List ℕ) (A : Attributes) (q : Registers) (pc h : ℕ) (m s : List ℕ) (room : h ≤ length s) (size : ℕ)
    (sized : length code ≡ size) (next : ℕ) where
  abbrev L : Modules → Program
  L = program code A

  abbrev T : Spot
  T = spot pc h m s

  -- What went to a place, where it is within the code, did a step.
  abbrev pub Going : (place height : ℕ) → Type 0
  Going place height = (t : Bool) (T' : Spot) → Became t (place < size) T (spot place height m s) T' → Did t L q T T'

  pub going : (i : Instruction) (pops place height : ℕ) → Decodes code pc i next → needed i ≤ h → height ≡ h - pops
      → ((Ms : Modules) → executed (L Ms) (state_at q T) next i ≡ Go pops NoPush NoWrite (moved (state_at q T).registers place))
      → Going place height
  going i pops place height stands enough l e t T' =
      did t L q _ T _ T'
      (λ Ms R c. gives_none (L Ms) q pc h m s i next place stands enough (ready-fitting (L Ms) (state_at q T) R).global
      (omega (arith, sized)) pops height l (e Ms) room)

  pub jump_goes : (d : ℕ) → Decodes code pc (Jump d) next → Going (place_at pc d) h
  unfolding execute shape_of jump_effect
  jump_goes d stands = going (Jump d) 0 (place_at pc d) h stands (omega arith) (omega arith) (λ Ms. refl)

  pub jump-c-goes : (d : ℕ) → Decodes code pc (JumpC d) next → 1 ≤ h → read s (h - 1) ≡ 0 → Going (place_at pc d) (h - 1)
  unfolding execute shape_of jump_c_effect
  jump-c-goes d stands one e = going (JumpC d) 1 (place_at pc d) (h - 1) stands one refl (λ Ms. rw (top-found s h one, e))

  pub jump-c-stays : (d : ℕ) → Decodes code pc (JumpC d) next → 1 ≤ h → read s (h - 1) ≡ 1 → Going next (h - 1)
  unfolding execute shape_of jump_c_effect
  jump-c-stays d stands one e = going (JumpC d) 1 next (h - 1) stands one refl (λ Ms. rw (top-found s h one, e))

  flag-does : (truth d : ℕ) → truth ≤ 1 → 1 ≤ h
      → (needed (flagged truth d) ≤ h)
      × ((Ms : Modules) → executed (L Ms) (state_at q T) next (flagged truth d)
      ≡ jump_tf_effect (state_at q T).registers next truth d (read s (h - 1)))
  unfolding execute shape_of
  flag-does zero d l one = (one, λ Ms. rw (top-found s h one))
  flag-does (suc zero) d l one = (one, λ Ms. rw (top-found s h one))
  flag-does (suc (suc n)) d l one = absurd (omega arith)

  pub flag-goes : (truth d : ℕ) → truth ≤ 1 → Decodes code pc (flagged truth d) next → 1 ≤ h → read s (h - 1) ≡ truth
      → Going (place_at pc d) h
  unfolding jump_tf_effect
  flag-goes truth d l stands one e =
      let (enough, does) = flag-does truth d l one in
      going (flagged truth d) 0 (place_at pc d) h stands enough (omega arith)
      (λ Ms. does Ms ∙ rw (lt-ltb (read s (h - 1)) 2 (omega (arith, e)), eq-eqb (read s (h - 1)) truth e))

  pub flag-stays : (truth d : ℕ) → truth ≤ 1 → Decodes code pc (flagged truth d) next → 1 ≤ h → read s (h - 1) ≤ 1
      → (read s (h - 1) ≡ truth → ⊥) → Going next (h - 1)
  unfolding jump_tf_effect
  flag-stays truth d l stands one k n =
      let (enough, does) = flag-does truth d l one in
      going (flagged truth d) 1 next (h - 1) stands enough refl
      (λ Ms. does Ms ∙ rw (lt-ltb (read s (h - 1)) 2 (omega arith), ne_eqb (read s (h - 1)) truth n))

  pub leave-goes : Decodes code pc Leave next → 1 ≤ h → Going (read s (h - 1)) (h - 1)
  unfolding execute shape_of
  leave-goes stands one = going Leave 1 (read s (h - 1)) (h - 1) stands one refl (λ Ms. rw (top-found s h one))
