-- Loads, load addresses, stores, operations, ALLOC and FREE (5.2.4.1 to 5.2.4.4, 5.2.4.7 to 5.2.4.10): q are the registers, m is the
-- memory, and `next` is the place after the instruction.
use Rattle.std.specs.Prelude.{Bool, false, cond, ◌||◌, List, ℕ, ◌+◌, ◌-◌, leb, ltb, length, Ok, Err}
use Rattle.opcode.specs.declared.instruction.Mode.{Mode}
use Rattle.opcode.specs.declared.instruction.Mode.TheVariants.{Normal, Double}
use Rattle.opcode.specs.declared.instruction.Base.{Base}
use Rattle.opcode.specs.declared.instruction.Base.TheVariants.{Local, Global, Constant, Popped, External}
use Rattle.opcode.specs.declared.instruction.Operation.{Operation}
use Rattle.operate.specs.Value.{is_boolean, Value}
use Rattle.operate.specs.Operation.{operation_value}
use Rattle.shape.specs.Counts.{popped, words_in, operands}
use Rattle.registers.specs.declared.Registers.{Registers}
use Rattle.effect.specs.declared.effect.Push.{Push}
use Rattle.effect.specs.declared.effect.Push.TheVariants.{NoPush, PushOne, PushTwo}
use Rattle.effect.specs.declared.effect.Write.{Write}
use Rattle.effect.specs.declared.effect.Write.TheVariants.{NoWrite, WriteOne, WriteTwo}
use Rattle.effect.specs.declared.effect.Effect.{Effect}
use Rattle.effect.specs.declared.effect.Effect.TheVariants.{Trap as trap, Go}
use Rattle.registers.specs.Modules.{Modules, globals_start, no_library}
use Rattle.registers.specs.Memory.{read, live, protects}
use Rattle.registers.specs.Changes.{moved, sized}
use Rattle.numbers.specs.declared.Trap.TheVariants.{Uncallable, NotLive, OutOfRange, Protected, NotBoolean, MemoryFull, BelowFrame}

-- How many words an effect pushes.
abbrev pub pushes : Push → ℕ
pushes NoPush = 0
pushes (PushOne a) = 1
pushes (PushTwo a b) = 2

-- What an offset is counted from: FP; GP; CONST_ADR, "MEMORY(GP-1)"; the address a of POP (A); or BASE (lib).
abbrev pub base_of : Modules → Registers → List ℕ → ℕ → Base → ℕ
base_of Ms q m a Local = q.fp
base_of Ms q m a Global = q.gp
base_of Ms q m a Constant = read m (q.gp - 1)
base_of Ms q m a Popped = a
base_of Ms q m a (External l) = globals_start Ms l

-- 23: there is no such library.
abbrev pub no_base : Modules → Base → Bool
no_base Ms Local = false
no_base Ms Global = false
no_base Ms Constant = false
no_base Ms Popped = false
no_base Ms (External l) = no_library Ms l

abbrev pub if_base : Modules → Base → Effect → Effect
if_base Ms base e = cond (no_base Ms base) (trap Uncallable) e

abbrev pub loaded : List ℕ → ℕ → Mode → Push
loaded m a Normal = PushOne (read m a)
loaded m a Double = PushTwo (read m a) (read m (a + 1))

-- LOAD_L, _G, _T, _F, _E: the offset is n, and a is the address word of LOAD_F.
unfoldable pub load_effect : (Ms : Modules) (q : Registers) (m : List ℕ) (next : ℕ) (base : Base) (mode : Mode) (n a : ℕ) → Effect
load_effect Ms q m next base mode n a =
    let address = base_of Ms q m a base + n in
    if_base Ms base
    (cond (live q address (words_in mode)) (Go (popped base) (loaded m address mode) NoWrite (moved q next)) (trap NotLive))

-- LOAD_A_L, _G, _T, _F, _E. 01: "An address sum past 32 bits is not live; LOAD_A_F traps 31 for it." The others' sums
-- stay within 32 bits in every state that fits, so that no other has a test of its address.
unfoldable pub load_address_effect : (Ms : Modules) (q : Registers) (m : List ℕ) (next : ℕ) (base : Base) (n a : ℕ) → Effect
load_address_effect Ms q m next base n a =
    let address = base_of Ms q m a base + n in
    if_base Ms base
    (cond (ltb address 0x1_0000_0000) (Go (popped base) (PushOne address) NoWrite (moved q next)) (trap OutOfRange))

abbrev pub stored : ℕ → Mode → ℕ → ℕ → Write
stored a Normal x y = WriteOne a x
stored a Double x y = WriteTwo a x y

-- One word is protected, or one of two.
abbrev pub protects_any : Modules → Registers → List ℕ → ℕ → Mode → Bool
protects_any Ms q m a Normal = protects Ms q m a
protects_any Ms q m a Double = protects Ms q m a || protects Ms q m (a + 1)

-- A store: 01, "For two words both must be live, then both unprotected."
abbrev pub if_storable : (Ms : Modules) (q : Registers) (m : List ℕ) (a : ℕ) (mode : Mode) (e : Effect) → Effect
if_storable Ms q m a mode e =
    cond (live q a (words_in mode)) (cond (protects_any Ms q m a mode) (trap Protected) e) (trap NotLive)

-- STOR_L, _G, _F, _E of x, or of x and y: the offset is n, and a is the address word of STOR_F.
unfoldable pub store_effect : (Ms : Modules) (q : Registers) (m : List ℕ) (next : ℕ) (base : Base) (mode : Mode)
    (n a x y : ℕ) → Effect
store_effect Ms q m next base mode n a x y =
    let address = base_of Ms q m a base + n in
    if_base Ms base
    (if_storable Ms q m address mode (Go (popped base + words_in mode) NoPush (stored address mode x y) (moved q next)))

-- One word is pushed in the place of those that go.
abbrev pub push_effect : (q : Registers) (next pops x : ℕ) → Effect
push_effect q next pops x = Go pops (PushOne x) NoWrite (moved q next)

-- A word in the place of those that go; or the trap.
abbrev pub value_effect : (q : Registers) (next pops : ℕ) → Value → Effect
value_effect q next pops (Ok x) = push_effect q next pops x
value_effect q next pops (Err t) = trap t

-- The operations on words: POP (Y); POP (X); PUSH (their value), or POP (X) alone.
abbrev pub operate_effect : (wraps : Bool) (q : Registers) (next : ℕ) (op : Operation) (x y : ℕ) → Effect
operate_effect wraps q next op x y = value_effect q next (operands op) (operation_value wraps op x y)

-- 34 is "not a boolean".
abbrev pub if_boolean : ℕ → Effect → Effect
if_boolean b e = cond (is_boolean b) e (trap NotBoolean)

-- ALLOC: POP (L); PUSH (MP); MP := MP + L. 35 is "memory full".
unfoldable pub alloc_effect : (q : Registers) (m : List ℕ) (next size : ℕ) → Effect
alloc_effect q m next l =
    cond (leb (q.mp + l) (length m)) (Go 1 (PushOne q.mp) NoWrite (sized q next (q.mp + l))) (trap MemoryFull)

-- FREE: POP (L); MP := MP - L. 38 is "FREE below FP".
unfoldable pub free_effect : (q : Registers) (next size : ℕ) → Effect
free_effect q next l = cond (leb (q.fp + l) q.mp) (Go 1 NoPush NoWrite (sized q next (q.mp - l))) (trap BelowFrame)
