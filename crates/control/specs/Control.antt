-- Jumps, loops, switches and calls (5.2.4.11 to 5.2.4.15); q, m and next as in Data. 01: "Distances count from the
-- instruction's own first byte", which is at PC.
use Rattle.std.specs.Prelude.{Bool, cond, ◌&&◌, ◌||◌, List, ℕ, ◌+◌, eqb, leb, ℤ, pos, length, Ok, Err}
use Rattle.std.specs.Int.Signed.{lt_z}
use Rattle.std.specs.Int.{w32}
use Rattle.std.proofs.Common.{to_z}
use Rattle.entries.specs.Entries.{entry_at, no_callee}
use Rattle.operand.specs.Distance.{place_at}
use Rattle.switch_table.specs.Switch.{exit_label, else_distance, branch_distance, search_distance, or_else}
use Rattle.shape.specs.declared.Table.{Table}
use Rattle.shape.specs.declared.Table.TheVariants.{Branches, Ranges}
use Rattle.opcode.specs.declared.instruction.Mode.TheVariants.{Normal}
use Rattle.opcode.specs.declared.instruction.Arithmetic.TheVariants.{Add}
use Rattle.operate.specs.Arithmetic.{signed_value}
use Rattle.registers.specs.declared.Registers.{Registers}
use Rattle.effect.specs.declared.effect.Push.TheVariants.{NoPush, PushOne}
use Rattle.effect.specs.declared.effect.Write.TheVariants.{NoWrite, WriteOne, WriteTwo, WriteThree, WritePopped}
use Rattle.effect.specs.declared.effect.Effect.{Effect}
use Rattle.effect.specs.declared.effect.Effect.TheVariants.{Trap as trap, Finish, Go}
use Rattle.registers.specs.Modules.{Modules, module_at, globals_start, no_library}
use Rattle.registers.specs.Memory.{read, negated}
use Rattle.registers.specs.Changes.{moved, sized, called, returned}
use Rattle.effect.specs.Data.{if_boolean, if_storable}
use Rattle.operate.specs.Value.{Value}
use Rattle.numbers.specs.declared.Trap.TheVariants.{Uncallable, CallsFull, MemoryFull}

-- JUMP.
unfoldable pub jump_effect : (q : Registers) (distance : ℕ) → Effect
jump_effect q d = Go 0 NoPush NoWrite (moved q (place_at q.pc d))

-- JUMP_C: POP (B); if not B then PC := PC + dist.
unfoldable pub jump_c_effect : (q : Registers) (next distance word : ℕ) → Effect
jump_c_effect q next d b = if_boolean b (Go 1 NoPush NoWrite (moved q (cond (eqb b 0) (place_at q.pc d) next)))

-- JUMP_T (truth is 1) and JUMP_F (truth is 0): POP (B); if B is `truth` then PUSH (B); PC := PC + dist.
unfoldable pub jump_tf_effect : (q : Registers) (next truth distance word : ℕ) → Effect
jump_tf_effect q next truth d b =
    if_boolean b (cond (eqb b truth) (Go 0 NoPush NoWrite (moved q (place_at q.pc d))) (Go 1 NoPush NoWrite (moved q next)))

-- (S > 0 and X > L) or (S < 0 and X < L).
abbrev pub beyond : ℤ → ℤ → ℤ → Bool
beyond s x l = (lt_z (pos 0) s && lt_z l x) || (lt_z s (pos 0) && lt_z x l)

-- ITER [ adr, first, last, step ]: past the loop, or MEMORY(A) := F and the label is pushed.
unfoldable pub iter_effect : (Ms : Modules) (q : Registers) (m : List ℕ) (next distance address first last step : ℕ) → Effect
iter_effect Ms q m next d a f l s =
    cond (beyond (to_z w32 s) (to_z w32 f) (to_z w32 l)) (Go 4 NoPush NoWrite (moved q (place_at q.pc d)))
    (if_storable Ms q m a Normal (Go 0 (PushOne next) (WriteOne a f) (moved q next)))

-- NEXT's sum: MEMORY(A) + S, signed. `Err` says here that it leaves the range; NEXT does not trap for it.
unfoldable pub next_sum : List ℕ → ℕ → ℕ → Value
next_sum m a s = signed_value Add (read m a) s

-- The sum x is stored; then the loop is left, or goes round to the label.
abbrev pub round_effect : (q : Registers) (next address last step label sum : ℕ) → Effect
round_effect q next a l s label x =
    cond (beyond (to_z w32 s) (to_z w32 x) (to_z w32 l)) (Go 5 NoPush (WriteOne a x) (moved q next))
    (Go 0 NoPush (WriteOne a x) (moved q label))

-- 02, K3: "Where the sum in NEXT leaves the signed range, the loop is left as if the sum had passed the last value, five words
-- go, and the variable keeps its value."
abbrev pub sum_effect : (q : Registers) (next address last step label : ℕ) → Value → Effect
sum_effect q next a l s label (Ok x) = round_effect q next a l s label x
sum_effect q next a l s label (Err t) = Go 5 NoPush NoWrite (moved q next)

-- NEXT [ adr, first, last, step, label ]. 02, K3: "The address must still be live and unprotected." So 32, 33, then the sum.
unfoldable pub next_effect : (Ms : Modules) (q : Registers) (m : List ℕ) (next address last step label : ℕ) → Effect
next_effect Ms q m next a l s label = if_storable Ms q m a Normal (sum_effect q next a l s label (next_sum m a s))

-- SWITCH: if X < 0 or X > n then PC := PC + E. As a word, a negative X is above every n. SWITCH_X: the range that holds X, or E.
abbrev pub switch_distance : (code : List ℕ) (at : ℕ) → Table → (n x : ℕ) → ℕ
switch_distance code at Branches n x = cond (leb x n) (branch_distance code at x) (else_distance code at)
switch_distance code at Ranges n x = or_else (search_distance code at n x) (else_distance code at)

-- SWITCH and SWITCH_X: POP (X); the exit label is pushed, and the place is at the distance.
unfoldable pub switch_effect : (code : List ℕ) (q : Registers) → Table → (n x : ℕ) → Effect
switch_effect code q t n x =
    let at = q.pc in
    Go 1 (PushOne (exit_label code at)) NoWrite (moved q (place_at at (switch_distance code at t n x)))

-- 01: "CALL tests callee, depth, memory": 23, 37, 35. "At most 64 calls are active". CALL_E does likewise, with three link words.
abbrev pub if_callable : (absent : Bool) (q : Registers) (m : List ℕ) (links : ℕ) → Effect → Effect
if_callable absent q m links e =
    cond absent (trap Uncallable)
    (cond (leb 64 q.calls) (trap CallsFull) (cond (leb (q.mp + links) (length m)) e (trap MemoryFull)))

unfoldable pub call_effect : (code : List ℕ) (q : Registers) (m : List ℕ) (next callee : ℕ) → Effect
call_effect code q m next p =
    if_callable (no_callee code p) q m 2 (Go 0 NoPush (WriteTwo q.mp q.fp next) (called q 2 q.gp (entry_at code p)))

-- CALL_E: MEMORY(MP) := GP; MEMORY(MP+1) := FP; MEMORY(MP+2) := -(PC+3). 23: no such library, or no such callee in it.
unfoldable pub call_external_effect : (Ms : Modules) (q : Registers) (m : List ℕ) (next library callee : ℕ) → Effect
call_external_effect Ms q m next l p =
    let code = (module_at Ms l).code in
    if_callable (no_library Ms l || no_callee code p) q m 3
    (Go 0 NoPush (WriteThree q.mp q.gp q.fp (negated next)) (called q 3 (globals_start Ms l) (entry_at code p)))

-- ENTER: MEMORY(MP..MP+par-1) := the top par words; MP := MP + par + dat.
unfoldable pub enter_effect : (q : Registers) (m : List ℕ) (next parameters words : ℕ) → Effect
enter_effect q m next par dat =
    cond (leb (q.mp + par + dat) (length m)) (Go par NoPush (WritePopped q.mp) (sized q next (q.mp + par + dat)))
    (trap MemoryFull)

-- 01: "RTN with no active call finishes and changes nothing."
unfoldable pub rtn_effect : Registers → List ℕ → Effect
rtn_effect q m = cond (eqb q.calls 0) Finish (Go 0 NoPush NoWrite (returned q m))
