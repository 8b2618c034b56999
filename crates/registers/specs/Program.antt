-- What runs: the running module, within its set.
use Rattle.std.specs.Prelude.{List, ℕ, ◌+◌}
use Rattle.header.specs.Header.{header_of}
use Rattle.version.specs.Issue.{wraps}
use Rattle.registers.specs.declared.Attributes.{Attributes}
use Rattle.registers.specs.Modules.{Module, Modules, module_at, globals_start, frames_start, number_at}

-- The code and the attributes of the running module, and all modules.
pub record Program : Type 0 where
  pub code : List ℕ
  pub attributes : Attributes
  pub modules : Modules

abbrev pub program : List ℕ → Attributes → Modules → Program
program code A Ms = record { code = code; attributes = A; modules = Ms }

-- Where its globals and its constants begin, where the frames of calls begin, and whether its unsigned results wrap.
abbrev pub attributes_at : Modules → ℕ → Attributes
attributes_at Ms k =
    record {
      globals = globals_start Ms k;
      constants = globals_start Ms k + (module_at Ms k).globals;
      frames = frames_start Ms;
      wraps = (module_at Ms k).wraps;
    }

-- Module k runs.
abbrev pub program_at : Modules → ℕ → Program
program_at Ms k = program (module_at Ms k).code (attributes_at Ms k) Ms

-- The module runs whose globals GP points at.
abbrev pub running : Modules → (gp : ℕ) → Program
running Ms gp = program_at Ms (number_at Ms gp)

-- The module of a record, with this code.
abbrev pub module_of : (r code : List ℕ) → Module
module_of r code =
    record {
      code = code;
      globals = (header_of r).globals;
      constants = (header_of r).constants;
      wraps = wraps r (header_of r);
    }
