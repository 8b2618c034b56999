-- The state of the machine. In code its parts are passed one by one: the registers by value, memory and stack as borrowed slices.
use Rattle.std.specs.Prelude.{List, [], ◌∷◌, ◌≡◌, ℕ, get_or}
use Rattle.registers.specs.declared.Registers.{Registers}

-- What a step finds and leaves: the registers, the memory, and the stack, that is the whole borrowed one (01: "Memory is a lent run of
-- 32-bit words"). An instruction sees only the stack words that it finds (`finding` in execute/specs/Execute).
pub record State : Type 0 where
  pub registers : Registers
  pub memory : List ℕ
  pub stack : List ℕ

abbrev pub state : Registers → List ℕ → List ℕ → State
state q m s = record { registers = q; memory = m; stack = s }

-- The registers as six words, and six words as registers.
abbrev pub state_words : Registers → List ℕ
state_words q = q.pc ∷ q.fp ∷ q.mp ∷ q.gp ∷ q.height ∷ q.calls ∷ []

unfoldable pub registers_in : List ℕ → Registers
registers_in w =
    record { pc = get_or w 0 0; fp = get_or w 1 0; mp = get_or w 2 0; gp = get_or w 3 0; height = get_or w 4 0; calls = get_or w 5 0 }

-- What a load writes as six words is what a run reads.
abbrev pub ReadsBack : Type 0
ReadsBack = (q : Registers) → registers_in (state_words q) ≡ q
