-- The relocation table (18), the number of a set, and the copy of the code.
use Rattle.std.specs.Prelude.{Bool, true, false, cond, not, ◌&&◌, List, [], ◌∷◌, ◌++◌, ℕ, eqb, ltb, leb, length}
use Rattle.words.specs.Bytes.{byte_at, words_from}
use Rattle.words.specs.Order.{every}
use Rattle.words.specs.Refusal.{Test, refusal, ◌when◌}
use Rattle.words.specs.Series.{series}
use Rattle.header.specs.Header.{header_of, relocation_at, code_of}
use Rattle.module_set.specs.Members.{Members, resolved}
use Rattle.module_set.specs.Linked.{every_member, records_number, has, linked}
use Rattle.relocation.specs.Places.{library_places}

abbrev pub relocations_of : List ℕ → List ℕ
relocations_of r = words_from r (relocation_at (header_of r)) (header_of r).relocation

-- "0 or past its import list" is not so.
abbrev pub import_number : List ℕ → ℕ → Bool
import_number r at = ltb 0 (byte_at (code_of r) at) && leb (byte_at (code_of r) at) (header_of r).imports

-- 18: "a relocation entry that does not point at the library byte of an external instruction cut before its region's first bad
-- one, or such a byte without an entry, 0 or past its import list".
unfoldable pub relocation_sound : List ℕ → Bool
relocation_sound r =
    let places = library_places (code_of r) in
    every (has places) (relocations_of r) && every (λ at. has (relocations_of r) at && import_number r at) places

-- 17 and 18 stand after 7.
abbrev pub set_tests : Members → List Test
set_tests S = 17 when not (linked S) ∷ 18 when not (every_member (λ M. relocation_sound M.bytes) S) ∷ []

unfoldable pub set_number : Members → ℕ
set_number S = cond (eqb (records_number S) 0) (refusal (set_tests S)) (records_number S)

-- The number of a call that makes these tests after those of the set.
abbrev pub after_set : Members → List Test → ℕ
after_set S tests = cond (eqb (set_number S) 0) (refusal tests) (set_number S)

-- The copy. 02, K1: "the library numbers are rewritten to module numbers, each once, in a lent copy of the code, module after
-- module". The new number comes from the record's byte, so that an entry that stands twice counts once.
abbrev pub relocated_byte : Members → List ℕ → ℕ → ℕ
relocated_byte S r at = cond (has (relocations_of r) at) (resolved S r (byte_at (code_of r) at)) (byte_at (code_of r) at)

unfoldable pub relocated : Members → List ℕ → List ℕ
relocated S r = series (relocated_byte S r) 1 0 (length (code_of r))

-- What the steps read: each module's code as rewritten, one behind the other.
abbrev pub copies_from : Members → Members → List ℕ
copies_from S [] = []
copies_from S (M ∷ rest) = relocated S M.bytes ++ copies_from S rest

unfoldable pub copy_of : Members → List ℕ
copy_of S = copies_from S S

-- A list begins with another, as a lent copy with the one that the load writes; behind that it may hold anything.
abbrev pub begins : List ℕ → List ℕ → Bool
begins [] ys = true
begins (x ∷ xs) [] = false
begins (x ∷ xs) (y ∷ ys) = eqb x y && begins xs ys
