-- The tables behind SWITCH and SWITCH_X (5.2.4.14), the instruction's code byte at `at`. 01: "Switch distances are unsigned
-- halfwords."
use Rattle.std.specs.Prelude.{Bool, cond, ◌&&◌, List, ℕ, zero, suc, ◌+◌, ◌*◌, eqb}
use Rattle.std.specs.Int.Signed.{le_z}
use Rattle.std.specs.Int.{w32}
use Rattle.std.proofs.Common.{to_z}
use Rattle.words.specs.Bytes.{halfword_at, word_at}
use Rattle.operand.specs.Distance.{place_at}

-- Z, the distance to the end of the case statement, and E, the distance to the ELSE part.
unfoldable pub exit_distance : List ℕ → ℕ → ℕ
exit_distance code at = halfword_at code (at + 3)

unfoldable pub else_distance : List ℕ → ℕ → ℕ
else_distance code at = halfword_at code (at + 5)

-- The exit label of a switch, which it pushes and where its LEAVE goes.
abbrev pub exit_label : List ℕ → ℕ → ℕ
exit_label code at = place_at at (exit_distance code at)

-- SWITCH: the distance to branch k of 0 .. n.
unfoldable pub branch_distance : List ℕ → ℕ → ℕ → ℕ
branch_distance code at k = halfword_at code (at + 7 + 2 * k)

-- SWITCH_X: where range k of 0 .. n - 1 stands: lower bound, upper bound, distance to the branch.
abbrev pub range_at : ℕ → ℕ → ℕ
range_at at k = at + 7 + 10 * k

unfoldable pub range_distance : List ℕ → ℕ → ℕ → ℕ
range_distance code at k = halfword_at code (range_at at k + 8)

-- 01: "bounds signed".
unfoldable pub range_holds : List ℕ → ℕ → ℕ → ℕ → Bool
range_holds code at k x =
    le_z (to_z w32 (word_at code (range_at at k))) (to_z w32 x) && le_z (to_z w32 x) (to_z w32 (word_at code (range_at at k + 4)))

-- D of the first of n ranges from k on that holds the selector; 0 where none does. 01: "SWITCH_X takes the first range that holds
-- the selector, bounds signed; distance 0 means ELSE."
abbrev pub search_from : List ℕ → ℕ → ℕ → ℕ → ℕ → ℕ
search_from code at x k zero = 0
search_from code at x k (suc n) = cond (range_holds code at k x) (range_distance code at k) (search_from code at x (k + 1) n)

unfoldable pub search_distance : List ℕ → ℕ → ℕ → ℕ → ℕ
search_distance code at n x = search_from code at x 0 n

-- SWITCH_X: if D = 0 then PC := PC + E, else PC := PC + D.
abbrev pub or_else : ℕ → ℕ → ℕ
or_else d e = cond (eqb d 0) e d
