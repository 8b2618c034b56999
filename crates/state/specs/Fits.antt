-- Which states a run takes (24), and the sizes that load takes (8).
use Rattle.std.specs.Prelude.{Bool, true, ◌&&◌, List, [], ◌∷◌, ℕ, ◌+◌, eqb, leb, length}
use Rattle.registers.specs.declared.Attributes.{Attributes}
use Rattle.registers.specs.declared.Registers.{Registers}
use Rattle.registers.specs.Modules.{Modules, header_word, data_size}
use Rattle.registers.specs.Program.{Program}
use Rattle.registers.specs.State.{State}
use Rattle.registers.specs.Memory.{read, chained, links_based}

-- 01, number 8: "memory under 3+g+c or over 16,384, stack over 1,024"; 02, K1: "the load's 8 counts every frame". The frames of calls
-- begin at `frames`.
unfoldable pub sizes_taken : (frames : ℕ) → List ℕ → List ℕ → Bool
sizes_taken frames m s = leb frames (length m) && (leb (length m) 16384 && leb (length s) 1024)

-- "GP is 3", the running module's first global, "FP <= MP <= memory, the height is within the stack, at most 64 calls are active".
unfoldable pub registers_fit : Attributes → Registers → List ℕ → List ℕ → Bool
registers_fit A q m s =
    eqb q.gp A.globals
    && (leb q.fp q.mp && (leb q.mp (length m) && (leb q.height (length s) && leb q.calls 64)))

-- Its globals come first, then its constants, and then the frames of calls: so of every module of a set.
unfoldable pub ordered : Attributes → Bool
ordered A = leb A.globals A.constants && leb A.constants A.frames

-- What the steps of the running module rely on.
unfoldable pub bounded : Attributes → State → Bool
bounded A S =
    ordered A
    && (sizes_taken A.frames S.memory S.stack
    && (registers_fit A S.registers S.memory S.stack
    && chained S.memory A.frames S.registers.fp S.registers.calls))

-- The three header words of module k, which has so many globals, at `start`.
unfoldable pub header_kept : List ℕ → (k start globals : ℕ) → Bool
header_kept m k start globals =
    eqb (read m start) (header_word k start globals 0)
    && (eqb (read m (start + 1)) (header_word k start globals 1) && eqb (read m (start + 2)) (header_word k start globals 2))

-- "every module's three header words are as loaded".
abbrev pub headers_kept : (k start : ℕ) → Modules → List ℕ → Bool
headers_kept k start [] m = true
headers_kept k start (M ∷ Ms) m = header_kept m k start M.globals && headers_kept (k + 1) (start + data_size M) Ms m

-- 01: "A state fits when the lent sizes are ones load takes, words 0 to 2 are as loaded, .., and following the saved FP that many
-- times, each at least 2 lower, ends at 3+g+c." 02, K1: ".. GP and each global link point at a module's globals, the place's module is
-- GP's, and the chain ends past the last constants."
unfoldable pub fits : Program → State → Bool
fits P S =
    bounded P.attributes S
    && (headers_kept 0 0 P.modules S.memory
    && links_based P.modules S.memory S.registers.fp S.registers.calls)
