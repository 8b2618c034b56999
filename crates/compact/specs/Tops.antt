-- How the code holds a list of slots: its height, and 1 plus the offset of the topmost label's origin (0 if none). What lies under a
-- label is its origin's own list, which the workspace w shows: halfword 4a is the height at offset a plus 1, 4a + 1 is 1 plus the offset
-- of its topmost label's origin (0 if none). That this determines the list is a theorem of crate verifier, not a definition.
use Rattle.std.specs.Prelude.{Bool, cond, List, ℕ, zero, suc, ◌+◌, ◌-◌, ◌*◌, eqb, leb, get_or}
use Rattle.stackmap.specs.Ways.{is_iter}
use Rattle.compact.specs.declared.top.Top.{Top}

abbrev pub top : ℕ → ℕ → Top
top height origin = record { height = height; origin = origin }

-- The height up to and with the topmost label: ITER's label lies on its list, a switch's in place of the word it pops.
abbrev pub label_height : List ℕ → List ℕ → ℕ → ℕ
label_height code w zero = 0
label_height code w (suc m) = cond (is_iter code m) (get_or w (4 * m) 0) (get_or w (4 * m) 0 - 1)

-- The origin of the next label under the topmost one.
abbrev pub origin_under : List ℕ → ℕ → ℕ
origin_under w zero = 0
origin_under w (suc m) = get_or w (4 * m + 1) 0

-- The top n slots are words.
unfoldable pub poppable : List ℕ → List ℕ → Top → ℕ → Bool
poppable code w t n = leb (n + label_height code w t.origin) t.height

-- The topmost label is the top slot; without a label, the list is empty.
unfoldable pub labelled : List ℕ → List ℕ → Top → Bool
labelled code w t = eqb (label_height code w t.origin) t.height

-- Without the top slot; without the top n.
unfoldable pub lowered : List ℕ → List ℕ → Top → Top
lowered code w t = top (t.height - 1) (cond (labelled code w t) (origin_under w t.origin) t.origin)

abbrev pub lowered_by : List ℕ → List ℕ → ℕ → Top → Top
lowered_by code w zero t = t
lowered_by code w (suc n) t = lowered_by code w n (lowered code w t)
