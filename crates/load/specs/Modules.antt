-- The modules of a set as the machine knows them. 02, K1: "The tests read the records as lent, the steps read the copy".
use Rattle.std.specs.Prelude.{cond, List, [], ◌∷◌, ◌++◌, ℕ, ◌+◌, length}
use Rattle.header.specs.Header.{header_of, code_of}
use Rattle.version.specs.Issue.{wraps}
use Rattle.module_set.specs.Members.{Members}
use Rattle.relocation.specs.Relocation.{relocated}
use Rattle.registers.specs.Modules.{Modules}
use Rattle.registers.specs.Program.{module_of}

-- Each with its code as rewritten.
abbrev pub modules_from : Members → Members → Modules
modules_from S [] = []
modules_from S (M ∷ rest) = module_of M.bytes (relocated S M.bytes) ∷ modules_from S rest

unfoldable pub modules_of : Members → Modules
modules_of S = modules_from S S

-- The table of the machine (registers/specs/Modules): the row of a record, whose code begins at `at` in the copy.
abbrev pub row_of : (r : List ℕ) (at : ℕ) → List ℕ
row_of r at = at ∷ length (code_of r) ∷ (header_of r).globals ∷ (header_of r).constants ∷ cond (wraps r (header_of r)) 1 0 ∷ []

-- The rows of members, the first one's code there; those of a set.
abbrev pub rows_over : Members → (at : ℕ) → List ℕ
rows_over [] at = []
rows_over (M ∷ rest) at = row_of M.bytes at ++ rows_over rest (at + length (code_of M.bytes))

unfoldable pub table_of : Members → List ℕ
table_of S = rows_over S 0
