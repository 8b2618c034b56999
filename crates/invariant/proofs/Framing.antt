-- Of the words that an instruction finds at most these go; and CALL and RTN alone move FP and count calls. By what an
-- instruction can do.
use mathlib.Core.List.{List, [], ◌∷◌}
use mathlib.Core.Path.{◌≡◌, refl}
use Prim.Native.Nat.{ℕ, ◌≤◌, ◌+◌, ◌-◌}
use native.Mathlib.Omega.{arith}
use lib.ListN.{length}
use lib.Seq.{sets}
use Rattle.opcode.specs.declared.instruction.Instruction.{Instruction}
use Rattle.shape.specs.declared.Shape.{Shape}
use Rattle.shape.specs.Shape.{finds}
use Rattle.shape.specs.Linkage.{Linkage, inside, calling, calling_external, entering, returning, linkage_of}
use Rattle.effect.specs.declared.effect.Effect.{Effect}
use Rattle.effect.specs.declared.effect.Effect.TheVariants.{Trap, Finish, Go}
use Rattle.effect.specs.declared.effect.Push.{Push}
use Rattle.effect.specs.declared.effect.Write.{Write}
use Rattle.effect.specs.declared.effect.Write.TheVariants.{NoWrite}
use Rattle.registers.specs.declared.Registers.{Registers}
use Rattle.registers.specs.Program.{Program}
use Rattle.registers.specs.State.{State}
use Rattle.registers.specs.Memory.{saved_fp, negated}
use Rattle.registers.specs.Changes.{sized}
use Rattle.step.specs.Step.{written}
use Rattle.execute.proofs.Acts.{Acts, traps, no-library, passes, resizes, stores, drops, jumps, branches, keeps-boolean, pops-boolean}
use Rattle.execute.proofs.Acts.{skips-loop, enters-loop, leaves_loop, leaves-by-sum, repeats-loop, switches}
use Rattle.execute.proofs.Acts.{leaves-switch, no-callee, calls, no-external-callee, calls-external, enters, finishes, returns}
use Rattle.numbers.specs.declared.Trap.{Trap as Cause}

-- An effect traps or finishes; or at most k words go, and P holds of its write and its registers.
pub data Does (k : ℕ) (P : Write → Registers → Type 0) : Effect → Type 0 where
  does-trap : {t : Cause} → Does k P (Trap t)
  does-finish : Does k P Finish
  does-go : {pops : ℕ} {push : Push} {write : Write} {q : Registers} → pops ≤ k → P write q → Does k P (Go pops push write q)

-- FP and the number of calls stay.
pub record Stays (q q' : Registers) : Type 0 where
  pub fp : q'.fp ≡ q.fp
  pub calls : q'.calls ≡ q.calls

-- CALL and CALL_E: the link words at MP, and the new frame above them.
pub record Links (q : Registers) (m : List ℕ) (words : List ℕ) (write : Write) (q' : Registers) : Type 0 where
  pub wrote : (popped : List ℕ) → written m popped write ≡ sets m q.mp words
  pub room : q.mp + length words ≤ length m
  pub fp : q'.fp ≡ q.mp + length words
  pub calls : q'.calls ≡ q.calls + 1

-- RTN of an active call: the saved FP.
pub record Unlinks (q : Registers) (m : List ℕ) (write : Write) (q' : Registers) : Type 0 where
  pub active : q.calls ≡ 0 → ⊥
  pub wrote : write ≡ NoWrite
  pub fp : q'.fp ≡ saved_fp m q.fp
  pub calls : q'.calls ≡ q.calls - 1

abbrev pub Still : Registers → Write → Registers → Type 0
Still q = λ write q'. Stays q q'

abbrev pub Framing : Registers → List ℕ → ℕ → Linkage → Write → Registers → Type 0
Framing q m next inside = Still q
Framing q m next (calling p) = Links q m (q.fp ∷ next ∷ [])
Framing q m next (calling_external k p) = Links q m (q.gp ∷ q.fp ∷ negated next ∷ [])
Framing q m next (entering par) = Still q
Framing q m next returning = Unlinks q m

module _ (P : Program) (S : State) (next : ℕ) where
  still : {k pops : ℕ} {push : Push} {write : Write} (place mp : ℕ) → pops ≤ k
      → Does k (Still S.registers) (Go pops push write (sized S.registers place mp))
  still place mp l = does-go l (record { fp = refl; calls = refl })

  pub acts-do : {i : Instruction} {s : Shape} {e : Effect} → Acts P S next i s e → Does (finds s)
      (Framing S.registers S.memory next (linkage_of s)) e
  acts-do (traps d) = does-trap
  acts-do (no-library l) = does-trap
  acts-do (passes p) = still _ _ (omega arith)
  acts-do (resizes p f r) = still _ _ (omega arith)
  acts-do (stores a x y mode p) = still _ _ (omega arith)
  acts-do drops = still _ _ (omega arith)
  acts-do jumps = still _ _ (omega arith)
  acts-do (branches b) = still _ _ (omega arith)
  acts-do keeps-boolean = still _ _ (omega arith)
  acts-do pops-boolean = still _ _ (omega arith)
  acts-do skips-loop = still _ _ (omega arith)
  acts-do (enters-loop a x p) = still _ _ (omega arith)
  acts-do (leaves_loop a x p) = still _ _ (omega arith)
  acts-do leaves-by-sum = still _ _ (omega arith)
  acts-do (repeats-loop a x p) = still _ _ (omega arith)
  acts-do (switches x) = still _ _ (omega arith)
  acts-do leaves-switch = still _ _ (omega arith)
  acts-do (no-callee p) = does-trap
  acts-do (calls c r) = does-go {pops = 0} (omega arith) (record { wrote = λ popped. refl; room = r; fp = refl; calls = refl })
  acts-do (no-external-callee p) = does-trap
  acts-do (calls-external l c r) =
      does-go {pops = 0} (omega arith) (record { wrote = λ popped. refl; room = r; fp = refl; calls = refl })
  acts-do (enters mp l r) = still _ _ (omega arith)
  acts-do finishes = does-finish
  acts-do (returns a) = does-go {pops = 0} (omega arith) (record { active = a; wrote = refl; fp = refl; calls = refl })
