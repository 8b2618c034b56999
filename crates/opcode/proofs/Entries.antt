-- A table is the sheet where one test passes that the checker computes over the whole of it, an entry after the other.
use mathlib.Core.Bool.{Bool, true, ◌&&◌, and-eq-true_iff}
use mathlib.Core.Path.{◌≡◌, ◌∙◌}
use mathlib.Core.List.{List, [], ◌∷◌}
use Prim.Native.Nat.{ℕ, zero, suc, ◌+◌, ◌<◌}
use native.Mathlib.Omega.{arith}
use borrow.Author.Tests.{eqb-true}
use lib.Dec.{eqb}
use lib.ListN.{length, get_or}
use Rattle.opcode.specs.Sheet.{sheet_of, Sheet}

-- The entries from a code on are those of the sheet.
abbrev pub right : ℕ → List ℕ → Bool
right code [] = true
right code (n ∷ rest) = eqb n (sheet_of code) && right (suc code) rest

from : (t : List ℕ) (first : ℕ) → right first t ≡ true → (k : ℕ) → k < length t → get_or t k 0 ≡ sheet_of (first + k)
from [] first e k h = absurd (omega arith)
from (n ∷ rest) first e zero h =
    let both = (and-eq-true_iff (eqb n (sheet_of first)) (right (suc first) rest)).0 e in
    let p : n ≡ sheet_of first = eqb-true n (sheet_of first) both.0 in
    let z : first + 0 ≡ first = omega arith in
    rw z p
from (n ∷ rest) first e (suc k) h =
    let both = (and-eq-true_iff (eqb n (sheet_of first)) (right (suc first) rest)).0 e in
    let z : first + suc k ≡ suc first + k = omega arith in
    rw z (from rest (suc first) both.1 k (omega arith))

pub sheet : (t : List ℕ) → length t ≡ 256 → right 0 t ≡ true → Sheet t
sheet t size e =
    record {
      size = size;
      entries = λ code below. let z : 0 + code ≡ code = omega arith in from t 0 e code (omega arith) ∙ rw z;
    }
