-- Load. 01: "Header words 0, 1, 2 hold 0, 0 and 3+g; GP is 3; parameters fill the first globals and the other globals are 0;
-- constants follow; FP and MP start at 3+g+c; the rest is 0." 02, K1: "Each has its own globals, constants, ..; data frames lie in module
-- order, word 1 of each holding its module's number, word 2 the address of its constants".
use Rattle.std.specs.Prelude.{cond, not, ◌&&◌, List, [], ◌∷◌, ◌++◌, ℕ, ◌+◌, ◌-◌, eqb, leb, length, replicate}
use Rattle.words.specs.Bytes.{words_from}
use Rattle.words.specs.Refusal.{Test, ◌when◌}
use Rattle.header.specs.Header.{header_of, constants_at, code_of}
use Rattle.entries.specs.Entries.{entry_at}
use Rattle.module_set.specs.Members.{Members, single}
use Rattle.relocation.specs.Relocation.{after_set, copy_of}
use Rattle.words.specs.Lent.{over}
use Rattle.registers.specs.declared.Registers.{Registers}
use Rattle.registers.specs.Modules.{module_at, header_word, data_size, frames_start}
use Rattle.registers.specs.Program.{Program, program_at, module_of}
use Rattle.registers.specs.State.{state_words}
use Rattle.state.specs.Fits.{sizes_taken}
use Rattle.load.specs.Modules.{modules_of}
use Rattle.load.specs.Loaded.{Loaded}
use Rattle.std.specs.Prelude.{Err, Ok}

unfoldable pub constant_words : List ℕ → List ℕ
constant_words r = words_from r (constants_at (header_of r)) (header_of r).constants

-- The data frame of module k, which begins at `start`: header words, parameters, the other globals, constants.
unfoldable pub frame_words : (k start : ℕ) (parameters r : List ℕ) → List ℕ
frame_words k start parameters r =
    let globals = (header_of r).globals in
    header_word k start globals 0 ∷ header_word k start globals 1 ∷ header_word k start globals 2
    ∷ (parameters ++ (replicate (globals - length parameters) 0 ++ constant_words r))

-- Those of all modules; parameters go to the first.
abbrev pub frames_from : (k start : ℕ) (parameters : List ℕ) → Members → List ℕ
frames_from k start parameters [] = []
frames_from k start parameters (M ∷ S) =
    let next = start + data_size (module_of M.bytes []) in
    frame_words k start parameters M.bytes ++ frames_from (k + 1) next [] S

unfoldable pub initial_data : Members → List ℕ → List ℕ
initial_data S parameters = frames_from 0 0 parameters S

-- The memory of a size that load leaves: "the rest is 0".
unfoldable pub loaded_memory : Members → List ℕ → ℕ → List ℕ
loaded_memory S parameters size = initial_data S parameters ++ replicate (size - frames_start (modules_of S)) 0

-- 01: "The stack starts empty, PC at procedure 0's entry, no call active." The main module runs.
unfoldable pub start_of : Program → Registers
start_of P =
    record {
      pc = entry_at P.code 0;
      fp = P.attributes.frames;
      mp = P.attributes.frames;
      gp = P.attributes.globals;
      height = 0;
      calls = 0;
    }

-- 8, after the set's numbers. 02, K1: "a copy too short is the load's 8".
abbrev pub load_tests : Members → (parameters copy m s : List ℕ) → List Test
load_tests S parameters copy m s =
    8 when not (leb (length parameters) (module_at (modules_of S) 0).globals
    && (leb (length (copy_of S)) (length copy) && sizes_taken (frames_start (modules_of S)) m s))
    ∷ []

unfoldable pub set_load_number : Members → (parameters copy m s : List ℕ) → ℕ
set_load_number S parameters copy m s = after_set S (load_tests S parameters copy m s)

-- The number of what load answers, 0 where the machine is ready, and the values: the registers at the start.
abbrev pub loaded_number : Loaded → ℕ
loaded_number (Err n) = n
loaded_number (Ok q) = 0

abbrev pub loaded_values : Loaded → List ℕ
loaded_values (Err n) = []
loaded_values (Ok q) = state_words q

-- What load answers, and the copy and the memory that it leaves. "Refused loads and runs change nothing." (Of the stack words "load
-- writes none".)
pub record Loading : Type 0 where
  pub answer : Loaded
  pub copy : List ℕ
  pub memory : List ℕ

abbrev pub loading : Loaded → (copy m : List ℕ) → Loading
loading a copy m = record { answer = a; copy = copy; memory = m }

unfoldable pub set_load : Members → (parameters copy m s : List ℕ) → Loading
set_load S parameters copy m s =
    cond (eqb (set_load_number S parameters copy m s) 0)
    (loading (Ok (start_of (program_at (modules_of S) 0))) (over (copy_of S) copy) (loaded_memory S parameters (length m)))
    (loading (Err (set_load_number S parameters copy m s)) copy m)

-- A record by itself: the set of one, with its own code as the copy.
abbrev pub load_number : (r parameters m s : List ℕ) → ℕ
load_number r parameters m s = set_load_number (single r []) parameters (code_of r) m s

abbrev pub load_of : (r parameters m s : List ℕ) → Loading
load_of r parameters m s = set_load (single r []) parameters (code_of r) m s
