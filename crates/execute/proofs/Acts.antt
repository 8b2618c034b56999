-- What `execute` can give, by the shape of the instruction: one constructor for each kind of effect, with the passed tests that
-- later proofs need as premises. The instructions and their tests are taken apart once, in `acts`; what holds of every step goes
-- by these constructors.
use mathlib.Core.Bool.{Bool, true, false, cond, ◌||◌}
use mathlib.Core.List.{List}
use mathlib.Core.Path.{◌≡◌, ◌∙◌, refl}
use Prim.Native.Nat.{ℕ, ◌+◌, ◌≤◌, ◌<◌}
use native.Mathlib.Omega.{arith}
use lib.Dec.{eqb, leb, ltb}
use lib.ListN.{length}
use mir.Syntax.{w32}
use mir.Val.{to_z}
use borrow.Author.Tests.{leb-true, leb-false, eqb-false}
use Rattle.words.proofs.Tests.{by-test}
use Rattle.entries.specs.Entries.{entry_at, no_callee}
use Rattle.operand.specs.Distance.{place_at}
use Rattle.switch_table.specs.Switch.{exit_label}
use Rattle.opcode.specs.declared.instruction.Instruction.{Instruction}
use Rattle.opcode.specs.declared.instruction.Instruction.TheVariants.{LoadConstant, Load, LoadAddress, Store, Pop, Swap, Nop}
use Rattle.opcode.specs.declared.instruction.Instruction.TheVariants.{Operate, Alloc, Free, Jump, JumpC, JumpT, JumpF, Iter}
use Rattle.opcode.specs.declared.instruction.Instruction.TheVariants.{Next, Switch, SwitchX, Leave, Call, CallExternal, Enter, Rtn}
use Rattle.opcode.specs.declared.instruction.Base.{Base}
use Rattle.opcode.specs.declared.instruction.Mode.{Mode}
use Rattle.opcode.specs.declared.instruction.Mode.TheVariants.{Normal, Double}
use Rattle.operate.specs.Traps.{DataTrap}
use Rattle.operate.specs.Operation.{operation_value}
use Rattle.operate.proofs.Traps.{data-number, Valued, a-trap, operation-valued}
use Rattle.shape.specs.Counts.{words_in, operands}
use Rattle.shape.specs.declared.Shape.{Shape}
use Rattle.shape.specs.declared.Shape.TheVariants as shape
use Rattle.shape.specs.declared.Table.{Table}
use Rattle.shape.specs.Shape.{shape_of}
use Rattle.effect.specs.declared.effect.Effect.{Effect}
use Rattle.effect.specs.declared.effect.Effect.TheVariants.{Trap, Finish, Go}
use Rattle.effect.specs.declared.effect.Push.{Push}
use Rattle.effect.specs.declared.effect.Push.TheVariants.{NoPush, PushOne}
use Rattle.effect.specs.declared.effect.Write.TheVariants.{NoWrite, WriteOne, WriteTwo, WriteThree, WritePopped}
use Rattle.registers.specs.declared.Registers.{Registers}
use Rattle.registers.specs.Modules.{Modules, module_at, globals_start, no_library}
use Rattle.registers.specs.Program.{Program}
use Rattle.registers.specs.State.{State}
use Rattle.registers.specs.Memory.{live, negated, protects}
use Rattle.registers.specs.Changes.{moved, sized, called, returned}
use Rattle.effect.specs.Data.{pushes, base_of, no_base, if_base, loaded, protects_any, stored, if_storable, value_effect}
use Rattle.effect.specs.Data.{load_effect, load_address_effect, store_effect, alloc_effect, free_effect}
use Rattle.control.specs.Control.{beyond, jump_effect, jump_c_effect, jump_tf_effect, iter_effect, next_sum, sum_effect, next_effect}
use Rattle.control.specs.Control.{switch_distance, switch_effect, call_effect, call_external_effect, enter_effect, rtn_effect}
use Rattle.registers.proofs.Rows.{library-below}
use Rattle.execute.specs.Execute.{word, execute}
use Rattle.std.specs.Prelude.{Ok, Err}
use Rattle.operate.specs.Value.{Value}
use Rattle.numbers.specs.declared.Trap.TheVariants.{Uncallable, OutOfRange, NotLive, Protected, NotBoolean, MemoryFull, CallsFull, BelowFrame}
use Rattle.numbers.specs.declared.Trap.{Trap as Cause}
use Rattle.numbers.specs.TrapNumber.{trap_number}

-- The instruction names a library that is not there.
abbrev pub lacks : Modules → Instruction → Bool
lacks Ms (LoadConstant n) = false
lacks Ms (Load base mode n) = no_base Ms base
lacks Ms (LoadAddress base n) = no_base Ms base
lacks Ms (Store base mode n) = no_base Ms base
lacks Ms (Pop n) = false
lacks Ms Swap = false
lacks Ms Nop = false
lacks Ms (Operate op) = false
lacks Ms Alloc = false
lacks Ms Free = false
lacks Ms (Jump d) = false
lacks Ms (JumpC d) = false
lacks Ms (JumpT d) = false
lacks Ms (JumpF d) = false
lacks Ms (Iter d) = false
lacks Ms Next = false
lacks Ms (Switch n) = false
lacks Ms (SwitchX n) = false
lacks Ms Leave = false
lacks Ms (Call p) = false
lacks Ms (CallExternal l p) = no_library Ms l
lacks Ms (Enter par dat) = false
lacks Ms Rtn = false

pub data Acts (P : Program) (S : State) (next : ℕ) (i : Instruction) : Shape → Effect → Type 0 where
  traps : {s : Shape} {t : Cause} → DataTrap (trap_number t) → Acts P S next i s (Trap t)
  no-library : {s : Shape} → lacks P.modules i ≡ true → Acts P S next i s (Trap Uncallable)
  passes : {pops come : ℕ} {push : Push} → pushes push ≡ come
      → Acts P S next i (shape.Straight pops come) (Go pops push NoWrite (moved S.registers next))
  resizes : {pops come mp : ℕ} {push : Push} → pushes push ≡ come
      → (S.registers.fp ≤ S.registers.mp → S.registers.fp ≤ mp)
      → (S.registers.mp ≤ length S.memory → mp ≤ length S.memory)
      → Acts P S next i (shape.Straight pops come) (Go pops push NoWrite (sized S.registers next mp))
  stores : {pops : ℕ} (a x y : ℕ) (mode : Mode) → protects_any P.modules S.registers S.memory a mode ≡ false
      → Acts P S next i (shape.Straight pops 0) (Go pops NoPush (stored a mode x y) (moved S.registers next))
  drops : {n : ℕ} → Acts P S next i (shape.Pop n) (Go n NoPush NoWrite (moved S.registers next))
  jumps : {d : ℕ} → Acts P S next i (shape.Jump d) (Go 0 NoPush NoWrite (moved S.registers (place_at S.registers.pc d)))
  branches : {d : ℕ} (b : Bool)
      → Acts P S next i (shape.JumpC d) (Go 1 NoPush NoWrite (moved S.registers (cond b (place_at S.registers.pc d) next)))
  keeps-boolean : {d : ℕ}
      → Acts P S next i (shape.JumpTF d) (Go 0 NoPush NoWrite (moved S.registers (place_at S.registers.pc d)))
  pops-boolean : {d : ℕ} → Acts P S next i (shape.JumpTF d) (Go 1 NoPush NoWrite (moved S.registers next))
  skips-loop : {d : ℕ} → Acts P S next i (shape.Iter d) (Go 4 NoPush NoWrite (moved S.registers (place_at S.registers.pc d)))
  enters-loop : {d : ℕ} (a x : ℕ) → protects P.modules S.registers S.memory a ≡ false
      → Acts P S next i (shape.Iter d) (Go 0 (PushOne next) (WriteOne a x) (moved S.registers next))
  leaves_loop : (a x : ℕ) → protects P.modules S.registers S.memory a ≡ false
      → Acts P S next i shape.Next (Go 5 NoPush (WriteOne a x) (moved S.registers next))
  leaves-by-sum : Acts P S next i shape.Next (Go 5 NoPush NoWrite (moved S.registers next))
  repeats-loop : (a x : ℕ) → protects P.modules S.registers S.memory a ≡ false
      → Acts P S next i shape.Next (Go 0 NoPush (WriteOne a x) (moved S.registers (word S 4)))
  switches : {t : Table} {n : ℕ} (x : ℕ)
      → Acts P S next i (shape.Switch t n) (Go 1 (PushOne (exit_label P.code S.registers.pc)) NoWrite
      (moved S.registers (place_at S.registers.pc (switch_distance P.code S.registers.pc t n x))))
  leaves-switch : Acts P S next i shape.Leave (Go 1 NoPush NoWrite (moved S.registers (word S 0)))
  no-callee : {p : ℕ} → no_callee P.code p ≡ true → Acts P S next i (shape.Call p) (Trap Uncallable)
  calls : {p : ℕ} → S.registers.calls < 64 → S.registers.mp + 2 ≤ length S.memory
      → Acts P S next i (shape.Call p) (Go 0 NoPush (WriteTwo S.registers.mp S.registers.fp next)
      (called S.registers 2 S.registers.gp (entry_at P.code p)))
  no-external-callee : {l p : ℕ} → no_callee (module_at P.modules l).code p ≡ true
      → Acts P S next i (shape.CallExternal l p) (Trap Uncallable)
  calls-external : {l p : ℕ} → l < length P.modules → S.registers.calls < 64 → S.registers.mp + 3 ≤ length S.memory
      → Acts P S next i (shape.CallExternal l p) (Go 0 NoPush
      (WriteThree S.registers.mp S.registers.gp S.registers.fp (negated next))
      (called S.registers 3 (globals_start P.modules l) (entry_at (module_at P.modules l).code p)))
  enters : {par : ℕ} (mp : ℕ) → S.registers.mp ≤ mp → mp ≤ length S.memory
      → Acts P S next i (shape.Enter par) (Go par NoPush (WritePopped S.registers.mp) (sized S.registers next mp))
  finishes : Acts P S next i shape.Rtn Finish
  returns : (S.registers.calls ≡ 0 → ⊥) → Acts P S next i shape.Rtn (Go 0 NoPush NoWrite (returned S.registers S.memory))

module _ (P : Program) (S : State) (next : ℕ) where
  abbrev q : Registers
  q = S.registers

  abbrev m : List ℕ
  m = S.memory

  abbrev Ms : Modules
  Ms = P.modules

  loaded-words : (a : ℕ) (mode : Mode) → pushes (loaded m a mode) ≡ words_in mode
  loaded-words a Normal = refl
  loaded-words a Double = refl

  module _ (i : Instruction) where
    abbrev Is : Shape → Effect → Type 0
    Is s e = Acts P S next i s e

    -- A test whose failure is a data trap.
    tested : (s : Shape) (t : Bool) (e : Effect) (w : Cause) → DataTrap (trap_number w) → (t ≡ true → Is s e)
        → Is s (cond t e (Trap w))
    tested s t e w d h = by-test (Is s) t e (Trap w) h (λ l. traps d)

    guarded : (s : Shape) (t : Bool) (e : Effect) (w : Cause) → DataTrap (trap_number w) → (t ≡ false → Is s e)
        → Is s (cond t (Trap w) e)
    guarded s t e w d h = by-test (Is s) t (Trap w) e (λ l. traps d) h

    value-acts : (pops : ℕ) (v : Value) → Valued v → Is (shape.Straight pops 1) (value_effect q next pops v)
    value-acts pops (Ok x) h = passes refl
    value-acts pops (Err t) (a-trap d) = traps d

    storable-acts : (s : Shape) (a : ℕ) (mode : Mode) (e : Effect) → (protects_any Ms q m a mode ≡ false → Is s e)
        → Is s (if_storable Ms q m a mode e)
    storable-acts s a mode e h =
        tested s (live q a (words_in mode)) _ NotLive (data-number 32 refl refl)
        (λ l. guarded s (protects_any Ms q m a mode) e Protected (data-number 33 refl refl) h)

    jump-tf-acts : (truth d b : ℕ) → Is (shape.JumpTF d) (jump_tf_effect q next truth d b)
    unfolding jump_tf_effect
    jump-tf-acts truth d b =
        tested (shape.JumpTF d) (ltb b 2) _ NotBoolean (data-number 34 refl refl)
        (λ l. by-test (Is (shape.JumpTF d)) (eqb b truth) _ _ (λ e. keeps-boolean) (λ e. pops-boolean))

    sum-acts : (a l s : ℕ) (v : Value) → protects Ms q m a ≡ false
        → Is shape.Next (sum_effect q next a l s (word S 4) v)
    sum-acts a l s (Ok x) p =
        by-test (Is shape.Next) (beyond (to_z w32 s) (to_z w32 x) (to_z w32 l)) _ _ (λ e. leaves_loop a x p) (λ e. repeats-loop a x p)
    sum-acts a l s (Err t) p = leaves-by-sum

    call-acts : (p : ℕ) → Is (shape.Call p) (call_effect P.code q m next p)
    unfolding call_effect
    call-acts p =
        by-test (Is (shape.Call p)) (no_callee P.code p) (Trap Uncallable) _ no-callee
        (λ c. guarded (shape.Call p) (leb 64 q.calls) _ CallsFull (data-number 37 refl refl)
        (λ d. tested (shape.Call p) (leb (q.mp + 2) (length m)) _ MemoryFull (data-number 35 refl refl)
        (λ r. calls (leb-false 64 q.calls d) (leb-true (q.mp + 2) (length m) r))))

    -- What counts from a library.
    based : (s : Shape) (base : Base) (e : Effect) → lacks Ms i ≡ no_base Ms base → Is s e → Is s (if_base Ms base e)
    based s base e h k = by-test (Is s) (no_base Ms base) (Trap Uncallable) e (λ t. no-library (h ∙ t)) (λ t. k)

  -- No such library, or no such callee in it.
  either-lacks : (l p : ℕ) (t : Bool) → no_library Ms l ≡ t → (t || no_callee (module_at Ms l).code p) ≡ true
      → Acts P S next (CallExternal l p) (shape.CallExternal l p) (Trap Uncallable)
  either-lacks l p true e h = no-library e
  either-lacks l p false e h = no-external-callee h

  first : (a b : Bool) → (a || b) ≡ false → a ≡ false
  first true b e = e
  first false b e = refl

  pub acts : (i : Instruction) → Acts P S next i (shape_of i) (execute P S next i)
  unfolding execute shape_of load_effect load_address_effect store_effect alloc_effect free_effect
      jump_effect jump_c_effect iter_effect next_effect next_sum switch_effect call_external_effect enter_effect rtn_effect
  acts (LoadConstant n) = passes refl
  acts (Load base mode n) =
      let a = base_of Ms q m (word S 0) base + n in
      based _ _ base _ refl
      (tested _ _ (live q a (words_in mode)) _ NotLive (data-number 32 refl refl) (λ l. passes (loaded-words a mode)))
  acts (LoadAddress base n) =
      based _ _ base _ refl
      (tested _ _ (ltb (base_of Ms q m (word S 0) base + n) 0x1_0000_0000) _ OutOfRange (data-number 31 refl refl)
      (λ l. passes refl))
  acts (Store base mode n) =
      based _ _ base _ refl (storable-acts _ _ (base_of Ms q m (word S 0) base + n) mode _ (stores _ _ _ mode))
  acts (Pop n) = drops
  acts Swap = passes refl
  acts Nop = passes refl
  acts (Operate op) =
      value-acts _ (operands op) (operation_value P.attributes.wraps op (word S 0) (word S 1))
      (operation-valued P.attributes.wraps op (word S 0) (word S 1))
  acts Alloc =
      tested _ _ (leb (q.mp + word S 0) (length m)) _ MemoryFull (data-number 35 refl refl)
      (λ l. resizes refl (λ f. omega arith) (λ f. leb-true (q.mp + word S 0) (length m) l))
  acts Free =
      tested _ _ (leb (q.fp + word S 0) q.mp) _ BelowFrame (data-number 38 refl refl)
      (λ l. resizes refl (λ f. omega (arith, leb-true (q.fp + word S 0) q.mp l)) (λ f. omega arith))
  acts (Jump d) = jumps
  acts (JumpC d) = tested _ _ (ltb (word S 0) 2) _ NotBoolean (data-number 34 refl refl) (λ l. branches (eqb (word S 0) 0))
  acts (JumpT d) = jump-tf-acts _ 1 d (word S 0)
  acts (JumpF d) = jump-tf-acts _ 0 d (word S 0)
  acts (Iter d) =
      by-test (Acts P S next _ (shape.Iter d)) (beyond (to_z w32 (word S 3)) (to_z w32 (word S 1)) (to_z w32 (word S 2))) _ _ (λ e. skips-loop)
      (λ e. storable-acts _ (shape.Iter d) (word S 0) Normal _ (enters-loop (word S 0) (word S 1)))
  acts Next =
      storable-acts _ shape.Next (word S 0) Normal _
      (sum-acts _ (word S 0) (word S 2) (word S 3) (next_sum m (word S 0) (word S 3)))
  acts (Switch n) = switches (word S 0)
  acts (SwitchX n) = switches (word S 0)
  acts Leave = leaves-switch
  acts (Call p) = call-acts _ p
  acts (CallExternal l p) =
      by-test (Acts P S next _ (shape.CallExternal l p)) (no_library Ms l || no_callee (module_at Ms l).code p) (Trap Uncallable) _
      (λ t. either-lacks l p (no_library Ms l) refl t)
      (λ t. guarded _ (shape.CallExternal l p) (leb 64 q.calls) _ CallsFull (data-number 37 refl refl)
      (λ d. tested _ (shape.CallExternal l p) (leb (q.mp + 3) (length m)) _ MemoryFull (data-number 35 refl refl)
      (λ r. calls-external (library-below Ms l (first (no_library Ms l) _ t)) (leb-false 64 q.calls d)
      (leb-true (q.mp + 3) (length m) r))))
  acts (Enter par dat) =
      tested _ _ (leb (q.mp + par + dat) (length m)) _ MemoryFull (data-number 35 refl refl)
      (λ l. enters (q.mp + par + dat) (omega arith) (leb-true (q.mp + par + dat) (length m) l))
  acts Rtn = by-test (Acts P S next _ shape.Rtn) (eqb q.calls 0) Finish _ (λ e. finishes) (λ e. returns (eqb-false q.calls 0 e))
