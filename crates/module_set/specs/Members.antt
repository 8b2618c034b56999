-- A set of modules. 02, K1: "module 0 is the main one, the others are lent with their SIDs".
use Rattle.std.specs.Prelude.{cond, List, [], ◌∷◌, ℕ, zero, suc, ◌+◌, ◌/◌, eqb, ltb, length, get_or, take, drop}
use Rattle.words.specs.Bytes.{words_from}
use Rattle.header.specs.Header.{header_of}

-- The main module's SID counts for nothing.
pub record Member : Type 0 where
  pub sid : ℕ
  pub bytes : List ℕ
  pub results : List ℕ

abbrev pub Members : Type 0
Members = List Member

abbrev pub no_member : Member
no_member = record { sid = 0; bytes = []; results = [] }

abbrev pub member_at : Members → ℕ → Member
member_at S k = get_or S k no_member

-- The set that records, results lists and a directory hold: the records lie one after another, the results lists likewise, and
-- the directory has four words for each module: its SID, the bytes of its record, those of its results list, and the halfwords
-- of its workspace. A share that its slice does not hold is cut off at the slice's end.
abbrev pub row_words : ℕ
row_words = 4

abbrev pub members_from : ℕ → (records lists directory : List ℕ) → Members
members_from zero records lists directory = []
members_from (suc n) records lists directory =
    let size = get_or directory 1 0 in
    let count = get_or directory 2 0 in
    record { sid = get_or directory 0 0; bytes = take size records; results = take count lists }
    ∷ members_from n (drop size records) (drop count lists) (drop row_words directory)

unfoldable pub members_of : (records lists directory : List ℕ) → Members
members_of records lists directory = members_from (length directory / row_words) records lists directory

-- A record by itself is a set of one.
abbrev pub single : (r results : List ℕ) → Members
single r results = record { sid = 0; bytes = r; results = results } ∷ []

abbrev pub libraries : Members → Members
libraries [] = []
libraries (M ∷ S) = S

-- The import list: the SIDs of the libraries that a module calls 1, 2, ..
abbrev pub imports_of : List ℕ → List ℕ
imports_of r = words_from r 28 (header_of r).imports

-- The number of the module of a SID, from k on; 0 where no library has it.
abbrev pub number_from : ℕ → Members → ℕ → ℕ
number_from k [] sid = 0
number_from k (M ∷ S) sid = cond (eqb M.sid sid) k (number_from (k + 1) S sid)

unfoldable pub number_of : Members → ℕ → ℕ
number_of S sid = number_from 1 (libraries S) sid

-- The number of the module that a record's library number l stands for: 1 is the first of its import list. 0 where it is none.
unfoldable pub resolved : Members → List ℕ → ℕ → ℕ
resolved S r zero = 0
resolved S r (suc l) = cond (ltb l (length (imports_of r))) (number_of S (get_or (imports_of r) l 0)) 0
