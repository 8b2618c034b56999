-- The modules of a set as the machine knows them, and where their data frames lie in memory. 02, K1: "data frames lie in module
-- order, word 1 of each holding its module's number, word 2 the address of its constants".
use Rattle.std.specs.Prelude.{Bool, false, cond, ◌&&◌, ◌||◌, List, [], ◌∷◌, ℕ, zero, suc, ◌+◌, ◌*◌, ◌/◌, eqb, leb, ltb, length, get_or, take, drop}

-- Its code, how many globals and constants it has, and whether its unsigned results wrap.
pub record Module : Type 0 where
  pub code : List ℕ
  pub globals : ℕ
  pub constants : ℕ
  pub wraps : Bool

abbrev pub Modules : Type 0
Modules = List Module

-- Stands for a module that is not there.
abbrev pub no_module : Module
no_module = record { code = []; globals = 0; constants = 0; wraps = false }

abbrev pub module_at : Modules → ℕ → Module
module_at Ms k = get_or Ms k no_module

-- A data frame: three header words, the globals, the constants.
abbrev pub header_words : ℕ
header_words = 3

-- Those of module k, whose data frame begins at `start` and has so many globals: 0, for none has an initialization part; its number;
-- where its constants lie.
abbrev pub header_word : (k start globals : ℕ) → ℕ → ℕ
header_word k start globals zero = 0
header_word k start globals (suc zero) = k
header_word k start globals (suc (suc i)) = start + header_words + globals

abbrev pub data_size : Module → ℕ
data_size M = header_words + M.globals + M.constants

-- Where the data frame of module k begins, the first one's at `start`.
abbrev pub data_start : (start : ℕ) → Modules → ℕ → ℕ
data_start start [] k = start
data_start start (M ∷ Ms) zero = start
data_start start (M ∷ Ms) (suc k) = data_start (start + data_size M) Ms k

-- The manual's BASE: the first global of module k.
abbrev pub globals_start : Modules → ℕ → ℕ
globals_start Ms k = data_start 0 Ms k + header_words

-- Behind all data frames, where the frames of calls begin.
abbrev pub data_end : (start : ℕ) → Modules → ℕ
data_end start [] = start
data_end start (M ∷ Ms) = data_end (start + data_size M) Ms

abbrev pub frames_start : Modules → ℕ
frames_start Ms = data_end 0 Ms

abbrev pub between : ℕ → ℕ → ℕ → Bool
between low high a = leb low a && ltb a high

-- A header word or a constant of one of the modules.
abbrev pub is_fixed : (start : ℕ) → Modules → ℕ → Bool
is_fixed start [] a = false
is_fixed start (M ∷ Ms) a =
    let globals = start + header_words in
    (between start globals a || between (globals + M.globals) (start + data_size M) a) || is_fixed (start + data_size M) Ms a

-- The number of the module whose globals begin at an address; as many as there are where none do.
abbrev pub number_from : (start : ℕ) → Modules → ℕ → ℕ
number_from start [] a = 0
number_from start (M ∷ Ms) a = cond (eqb a (start + header_words)) 0 (suc (number_from (start + data_size M) Ms a))

unfoldable pub number_at : Modules → ℕ → ℕ
number_at Ms a = number_from 0 Ms a

-- 02, K1: "GP and each global link point at a module's globals".
abbrev pub is_base : Modules → ℕ → Bool
is_base Ms a = ltb (number_at Ms a) (length Ms)

-- Trap 23. 02, K1: "Trap 23 also means no such library, 0 included."
abbrev pub no_library : Modules → ℕ → Bool
no_library Ms l = eqb l 0 || leb (length Ms) l

-- How code holds modules: a row of five words each in a table, which says where its code begins in `copy`, how many bytes it has, the
-- module's globals, its constants, and 1 where its unsigned results wrap.
abbrev pub row_words : ℕ
row_words = 5

abbrev pub row_word : List ℕ → (k i : ℕ) → ℕ
row_word table k i = get_or table (row_words * k + i) 0

abbrev pub row_at : (table copy : List ℕ) → ℕ → Module
row_at table copy k =
    record {
      code = take (row_word table k 1) (drop (row_word table k 0) copy);
      globals = row_word table k 2;
      constants = row_word table k 3;
      wraps = eqb (row_word table k 4) 1;
    }

abbrev pub rows_from : (table copy : List ℕ) (k n : ℕ) → Modules
rows_from table copy k zero = []
rows_from table copy k (suc n) = row_at table copy k ∷ rows_from table copy (k + 1) n

unfoldable pub modules_in : (table copy : List ℕ) → Modules
modules_in table copy = rows_from table copy 0 (length table / row_words)
