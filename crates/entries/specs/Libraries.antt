-- The libraries that a module imports, as its check sees them. 02, K1: "with a callee's entry (14), parameters and results taken
-- from its own module".
use Rattle.std.specs.Prelude.{cond, List, [], ◌∷◌, ℕ, zero, suc, ◌+◌, ◌-◌, ◌*◌, ◌/◌, eqb, ltb, length, get_or, take, drop}

-- A library that the module under check imports: its code, and its results list.
pub record Library : Type 0 where
  pub code : List ℕ
  pub results : List ℕ

abbrev pub no_library : Library
no_library = record { code = []; results = [] }

-- Library number 1 is the first of the import list; 0 and numbers past the list are none.
unfoldable pub library_in : List Library → ℕ → Library
library_in libraries zero = no_library
library_in libraries (suc k) = get_or libraries k no_library

-- The libraries as code holds them: a row of four words each in a table: where its code begins in `records` and how many bytes it
-- has, where its results list begins in `lists`, and how many bytes that has.
abbrev pub library_at : (table records lists : List ℕ) → ℕ → Library
library_at table records lists k =
    record {
      code = take (get_or table (4 * k + 1) 0) (drop (get_or table (4 * k) 0) records);
      results = take (get_or table (4 * k + 3) 0) (drop (get_or table (4 * k + 2) 0) lists);
    }

-- Those of n rows from row k on.
abbrev pub libraries_from : (table records lists : List ℕ) → ℕ → ℕ → List Library
libraries_from table records lists k zero = []
libraries_from table records lists k (suc n) = library_at table records lists k ∷ libraries_from table records lists (k + 1) n

-- As many as the table has whole rows.
unfoldable pub libraries_in : (table records lists : List ℕ) → List Library
libraries_in table records lists = libraries_from table records lists 0 (length table / 4)

-- Word j of a library's row; 0 where there is no such library.
unfoldable pub row_word : List ℕ → ℕ → ℕ → ℕ
row_word table l j = cond (eqb l 0) 0 (cond (ltb (l - 1) (length table / 4)) (get_or table (4 * (l - 1) + j) 0) 0)
