-- Where control may go from an instruction. 01: "where NEXT goes round to and LEAVE goes is for the picture".
use Rattle.std.specs.Prelude.{List, [], ◌∷◌, ℕ, ◌+◌}
use Rattle.words.specs.Series.{series}
use Rattle.operand.specs.Distance.{place_at}
use Rattle.switch_table.specs.Switch.{exit_label, else_distance, branch_distance, range_distance, or_else}
use Rattle.shape.specs.declared.Shape.{Shape}
use Rattle.shape.specs.declared.Shape.TheVariants.{Straight, Pop, Jump, JumpC, JumpTF, Iter}
use Rattle.shape.specs.declared.Shape.TheVariants.{Next, Switch, Leave, Call, CallExternal, Enter, Rtn}
use Rattle.shape.specs.declared.Table.{Table}
use Rattle.shape.specs.declared.Table.TheVariants.{Branches, Ranges}

-- 01: "SWITCH has n+1 branches".
abbrev pub table_size : Table → ℕ → ℕ
table_size Branches n = n + 1
table_size Ranges n = n

-- Where branch k goes; for SWITCH_X "distance 0 means ELSE".
abbrev pub table_target : List ℕ → ℕ → Table → ℕ → ℕ
table_target code at Branches k = place_at at (branch_distance code at k)
table_target code at Ranges k = place_at at (or_else (range_distance code at k) (else_distance code at))

-- Where n branches from k on go.
abbrev pub table_from : List ℕ → ℕ → Table → ℕ → ℕ → List ℕ
table_from code at t k n = series (table_target code at t) 1 k n

abbrev pub else_target : List ℕ → ℕ → ℕ
else_target code at = place_at at (else_distance code at)

-- The ELSE part, then every branch of the table.
unfoldable pub switch_targets : List ℕ → ℕ → Table → ℕ → List ℕ
switch_targets code at t n = else_target code at ∷ table_from code at t 0 (table_size t n)

-- The successors of the instruction at an offset, of a shape, before `next`; and the label of a switch.
abbrev pub targets : List ℕ → ℕ → ℕ → Shape → List ℕ
targets code at next (Straight pops pushes) = next ∷ []
targets code at next (Pop n) = next ∷ []
targets code at next (Jump d) = place_at at d ∷ []
targets code at next (JumpC d) = next ∷ place_at at d ∷ []
targets code at next (JumpTF d) = next ∷ place_at at d ∷ []
targets code at next (Iter d) = next ∷ place_at at d ∷ []
targets code at next Next = next ∷ []
targets code at next (Switch t n) = exit_label code at ∷ switch_targets code at t n
targets code at next Leave = []
targets code at next (Call p) = next ∷ []
targets code at next (CallExternal l p) = next ∷ []
targets code at next (Enter par) = next ∷ []
targets code at next Rtn = []
