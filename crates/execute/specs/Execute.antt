-- What each instruction does with the words that it finds: one clause an instruction, in the order of the enum, the manual's brackets
-- beside it; a two-word value counts two.
use Rattle.std.specs.Prelude.{List, ℕ, ◌+◌, ◌-◌, take, drop}
use Rattle.opcode.specs.declared.instruction.Instruction.{Instruction}
use Rattle.opcode.specs.declared.instruction.Instruction.TheVariants.{LoadConstant, Load, LoadAddress, Store, Pop, Swap, Nop}
use Rattle.opcode.specs.declared.instruction.Instruction.TheVariants.{Operate, Alloc, Free, Jump, JumpC, JumpT, JumpF, Iter}
use Rattle.opcode.specs.declared.instruction.Instruction.TheVariants.{Next, Switch, SwitchX, Leave, Call, CallExternal, Enter, Rtn}
use Rattle.shape.specs.declared.Table.TheVariants.{Branches, Ranges}
use Rattle.shape.specs.Counts.{popped}
use Rattle.shape.specs.Shape.{needed}
use Rattle.registers.specs.Program.{Program}
use Rattle.registers.specs.State.{State, state}
use Rattle.registers.specs.Memory.{read}
use Rattle.registers.specs.Changes.{moved}
use Rattle.effect.specs.declared.effect.Push.TheVariants.{NoPush, PushTwo}
use Rattle.effect.specs.declared.effect.Write.TheVariants.{NoWrite}
use Rattle.effect.specs.declared.effect.Effect.{Effect}
use Rattle.effect.specs.declared.effect.Effect.TheVariants.{Go}
use Rattle.effect.specs.Data.{load_effect, load_address_effect, store_effect, push_effect, operate_effect, alloc_effect, free_effect}
use Rattle.control.specs.Control.{jump_effect, jump_c_effect, jump_tf_effect, iter_effect, next_effect}
use Rattle.control.specs.Control.{switch_effect, call_effect, call_external_effect, enter_effect, rtn_effect}

-- The top n words of a stack of some height, the lowest first.
abbrev pub top_words : ℕ → ℕ → List ℕ → List ℕ
top_words n height s = take n (drop (height - n) s)

-- A state as an instruction sees it that finds n words: of the stack just these, in the order of the manual's brackets.
abbrev pub finding : ℕ → State → State
finding n S = state S.registers S.memory (top_words n S.registers.height S.stack)

-- Word k of those that the instruction finds, counted from 0.
abbrev pub word : State → ℕ → ℕ
word S k = read S.stack k

-- P is what runs, S the state as the instruction sees it, and `next` the place after the instruction.
unfoldable pub execute : (P : Program) (S : State) (next : ℕ) → Instruction → Effect
execute P S next (LoadConstant n) = push_effect S.registers next 0 n  -- [ => val ]
execute P S next (Load base mode n) =
    load_effect P.modules S.registers S.memory next base mode n (word S 0)  -- [ => val ], LOAD_F [ adr => val ]
execute P S next (LoadAddress base n) =
    load_address_effect P.modules S.registers S.memory next base n (word S 0)  -- [ => adr ], LOAD_A_F [ adr => adr ]
execute P S next (Store base mode n) =  -- [ val => ], STOR_F [ adr, val => ]
    store_effect P.modules S.registers S.memory next base mode n (word S 0) (word S (popped base))
    (word S (popped base + 1))
execute P S next (Pop n) = Go n NoPush NoWrite (moved S.registers next)  -- [ val (,...) => ]
execute P S next Swap = Go 2 (PushTwo (word S 1) (word S 0)) NoWrite (moved S.registers next)  -- [ val, val => val, val ]
execute P S next Nop = Go 0 NoPush NoWrite (moved S.registers next)
execute P S next (Operate op) =  -- [ val, val => val ] or as in shape/specs/Counts
    operate_effect P.attributes.wraps S.registers next op (word S 0) (word S 1)
execute P S next Alloc = alloc_effect S.registers S.memory next (word S 0)  -- [ size => adr ]
execute P S next Free = free_effect S.registers next (word S 0)  -- [ size => ]
execute P S next (Jump d) = jump_effect S.registers d  -- [ ]
execute P S next (JumpC d) = jump_c_effect S.registers next d (word S 0)  -- [ bool => ]
execute P S next (JumpT d) = jump_tf_effect S.registers next 1 d (word S 0)  -- [ bool => (bool) ]
execute P S next (JumpF d) = jump_tf_effect S.registers next 0 d (word S 0)  -- [ bool => (bool) ]
execute P S next (Iter d) =  -- [ adr, first, last, step => (adr, first, last, step, label) ]
    iter_effect P.modules S.registers S.memory next d (word S 0) (word S 1) (word S 2) (word S 3)
execute P S next Next =  -- [ adr, first, last, step, label => (adr, first, last, step, label) ]
    next_effect P.modules S.registers S.memory next (word S 0) (word S 2) (word S 3) (word S 4)
execute P S next (Switch n) = switch_effect P.code S.registers Branches n (word S 0)  -- [ val => label ]
execute P S next (SwitchX n) = switch_effect P.code S.registers Ranges n (word S 0)  -- [ val => label ]
execute P S next Leave = Go 1 NoPush NoWrite (moved S.registers (word S 0))  -- [ label => ]
execute P S next (Call p) = call_effect P.code S.registers S.memory next p  -- [ ]
execute P S next (CallExternal l p) =
    call_external_effect P.modules S.registers S.memory next l p  -- [ ]
execute P S next (Enter par dat) = enter_effect S.registers S.memory next par dat  -- [ val, ..., val => ]
execute P S next Rtn = rtn_effect S.registers S.memory  -- [ ]

-- What an instruction does in a state, whose stack has the words that it finds.
abbrev pub executed : (P : Program) (S : State) (next : ℕ) → Instruction → Effect
executed P S next i = execute P (finding (needed i) S) next i
