-- How the code holds the libraries of a module of a set: a row of four words for each import (entries/specs/Libraries).
-- proofs/Tables joins this with `libraries_of`.
use Rattle.std.specs.Prelude.{true, List, [], ◌∷◌, ◌++◌, ◌≡◌, ℕ, ◌+◌, ◌*◌, ◌≤◌, length}
use Rattle.std.proofs.lemmas.List.Edits.{sets}
use Rattle.header.specs.Header.{header_of, code_at, code_of}
use Rattle.record.specs.Number.{record_number}
use Rattle.module_set.specs.Members.{Members, members_of, member_at, imports_of, number_of}
use Rattle.module_set.specs.Rows.{shares_before}
use Rattle.relocation.specs.Relocation.{set_number}
use Rattle.workspace.specs.Checking.{Checking}
use Rattle.verifier.specs.Check.{lists_sound, libraries_of, concluded}
use Rattle.verifier.specs.Examine.{examined_of}

-- A set without a number up to 7, 17 or 18, and without 9.
pub record Linkable (S : Members) : Type 0 where
  pub numberless : set_number S ≡ 0
  pub fitting : lists_sound S ≡ true

-- The own module examined with its libraries, and what that leaves of the workspace.
unfoldable pub own_examined : Members → (own : ℕ) (w : List ℕ) → Checking
own_examined S own w =
    let M = member_at S own in
    concluded (length (code_of M.bytes)) w (examined_of (code_of M.bytes) (libraries_of S M.bytes) M.results)

-- Where module m's record and results list begin are words.
pub record Placed (records lists directory : List ℕ) (m : ℕ) : Type 0 where
  pub few : m ≤ 16
  pub sound : record_number (member_at (members_of records lists directory) m).bytes ≡ 0
  pub record_near : shares_before directory 1 m ≤ 1000000
  pub list_near : shares_before directory 2 m ≤ 1000000
  pub list_short : length (member_at (members_of records lists directory) m).results ≤ 1000000

-- The row that says where module m lies.
abbrev pub library_row : (records lists directory : List ℕ) → ℕ → List ℕ
library_row records lists directory m =
    let M = member_at (members_of records lists directory) m in
    (shares_before directory 1 m + code_at (header_of M.bytes)) ∷ length (code_of M.bytes)
    ∷ shares_before directory 2 m ∷ length M.results ∷ []

-- Stored as row j.
unfoldable pub row_put : (records lists directory : List ℕ) → ℕ → List ℕ → ℕ → List ℕ
row_put records lists directory m table j = sets table (4 * j) (library_row records lists directory m)

-- The rows of an import list, and those of a module.
abbrev pub library_rows : (records lists directory sids : List ℕ) → List ℕ
library_rows records lists directory [] = []
library_rows records lists directory (sid ∷ sids) =
    library_row records lists directory (number_of (members_of records lists directory) sid)
    ++ library_rows records lists directory sids

unfoldable pub library_table : (records lists directory r : List ℕ) → List ℕ
library_table records lists directory r = library_rows records lists directory (imports_of r)
