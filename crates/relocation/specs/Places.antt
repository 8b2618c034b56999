-- Where library numbers stand in a code. 02, K1, 18: "the library byte of an external instruction cut before its region's first
-- bad one".
use Rattle.std.specs.Prelude.{Bool, true, false, cond, List, [], ◌∷◌, ◌++◌, ℕ, zero, suc, ◌+◌, ◌-◌, ltb, length}
use Rattle.entries.specs.Entries.{entry_at, entry_count, region_end}
use Rattle.opcode.specs.Decode.{decode_at}
use Rattle.opcode.specs.Decode.{Decoded}
use Rattle.opcode.specs.declared.DecodeError.TheVariants.{Unserved, Past}
use Rattle.std.specs.Prelude.{Err, Ok}
use Rattle.opcode.specs.declared.instruction.Base.{Base}
use Rattle.opcode.specs.declared.instruction.Base.TheVariants.{Local, Global, Constant, Popped, External}
use Rattle.opcode.specs.declared.instruction.Instruction.{Instruction}
use Rattle.opcode.specs.declared.instruction.Instruction.TheVariants.{LoadConstant, Load, LoadAddress, Store, Pop, Swap, Nop}
use Rattle.opcode.specs.declared.instruction.Instruction.TheVariants.{Operate, Alloc, Free, Jump, JumpC, JumpT, JumpF, Iter}
use Rattle.opcode.specs.declared.instruction.Instruction.TheVariants.{Next, Switch, SwitchX, Leave, Call, Enter, Rtn}
use Rattle.opcode.specs.declared.instruction.Instruction.TheVariants.{CallExternal}

-- The external instructions: LOAD_E, LOAD_A_E and STOR_E by their base, and CALL_E.
abbrev pub outside : Base → Bool
outside Local = false
outside Global = false
outside Constant = false
outside Popped = false
outside (External l) = true

abbrev pub is_external : Instruction → Bool
is_external (LoadConstant n) = false
is_external (Load base mode n) = outside base
is_external (LoadAddress base n) = outside base
is_external (Store base mode n) = outside base
is_external (Pop n) = false
is_external Swap = false
is_external Nop = false
is_external (Operate op) = false
is_external Alloc = false
is_external Free = false
is_external (Jump d) = false
is_external (JumpC d) = false
is_external (JumpT d) = false
is_external (JumpF d) = false
is_external (Iter d) = false
is_external Next = false
is_external (Switch n) = false
is_external (SwitchX n) = false
is_external Leave = false
is_external (Call p) = false
is_external (CallExternal l p) = true
is_external (Enter par dat) = false
is_external Rtn = false

-- The library byte stands behind the code byte of the instruction at an offset; no prefix is served before one.
abbrev pub library_byte : ℕ → Instruction → List ℕ
library_byte at i = cond (is_external i) ((at + 1) ∷ []) []

abbrev pub places_at : (ℕ → List ℕ) → ℕ → Decoded → List ℕ
places_at go at (Err Unserved) = []
places_at go at (Err Past) = []
places_at go at (Ok (i, next)) = library_byte at i ++ go next

-- The region of procedure p from an offset on, in at most so many instructions.
abbrev pub places_from : List ℕ → (p n at : ℕ) → List ℕ
places_from code p zero at = []
places_from code p (suc n) at =
    cond (ltb at (region_end code p)) (places_at (places_from code p n) at (decode_at code (region_end code p) at)) []

-- n procedures from p on, and then procedure 0: each region is cut by itself.
abbrev pub places_over : List ℕ → (p n : ℕ) → List ℕ
places_over code p zero = places_from code 0 (length code) (entry_at code 0)
places_over code p (suc n) = places_from code p (length code) (entry_at code p) ++ places_over code (p + 1) n

unfoldable pub library_places : List ℕ → List ℕ
library_places code = places_over code 1 (entry_count code - 1)
