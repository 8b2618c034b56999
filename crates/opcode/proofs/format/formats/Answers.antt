-- `format::formats` meets its contract: a test over all 256 entries computes to true, in two parts.
use mathlib.Core.Bool.{true, and-eq-true_iff}
use mathlib.Core.Path.{◌≡◌, refl}
use mathlib.Core.List.{List, [], ◌∷◌}
use Prim.Native.Nat.{ℕ, zero, suc, ◌+◌}
use native.Mathlib.Omega.{arith}
use lib.Dec.{eqb}
use lib.ListN.{length, take, drop}
use borrow.Author.Rules.{rules}
use Rattle.opcode.specs.Table.{row_of}
use Rattle.opcode.specs.Sheet.{Sheet, sheet_of}
use Rattle.opcode.proofs.Entries.{right, sheet}
use Rattle.opcode.proofs.format.formats.Reads as reads
use Rattle.opcode.proofs.format.formats.Lts as lts
use Rattle.opcode.proofs.format.formats.Goals as goal

joined : (n first : ℕ) (t : List ℕ) → right first (take n t) ≡ true → right (first + n) (drop n t) ≡ true → right first t ≡ true
joined zero first t e f = let z : first + 0 ≡ first = omega arith in rw z at f
joined (suc n) first [] e f = refl
joined (suc n) first (x ∷ t) e f =
    let both = (and-eq-true_iff (eqb x (sheet_of first)) (right (suc first) (take n t))).0 e in
    let z : first + suc n ≡ suc first + n = omega arith in
    (and-eq-true_iff (eqb x (sheet_of first)) (right (suc first) t)).1 (both.0, joined n (suc first) t both.1 (rw z at f))

whole : (t : List ℕ) → length t ≡ 256 → right 0 (take 0xA0 t) ≡ true → right 0xA0 (drop 0xA0 t) ≡ true → Sheet t
whole t size e f = sheet t size (joined 0xA0 0 t e f)

-- Both are searched for, since the search says of a wrong table that it finds no proof.
below-A0 : lts.Need-returns reads.Pre (λ κs a t ended. right 0 (take 0xA0 t) ≡ true)
unfolding sheet_of row_of
below-A0 c = search rules

from-A0 : lts.Need-returns reads.Pre (λ κs a t ended. right 0xA0 (drop 0xA0 t) ≡ true)
unfolding sheet_of row_of
from-A0 c = search rules

pub returns : goal.returns
returns c =
    whole _ refl (below-A0 record { args = record {}; well_formed = c.well_formed; requires = c.requires })
    (from-A0 record { args = record {}; well_formed = c.well_formed; requires = c.requires })
