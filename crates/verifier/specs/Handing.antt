-- The walk as the code makes it, over the workspace: four halfwords for each code byte, the height plus 1, the topmost label's origin
-- plus 1, whether the offset waits, and its mark. proofs/ joins it with stackmap's walk over whole lists.
use Rattle.std.specs.Prelude.{Bool, Err, None, Ok, Option, Some, true, false, cond, ◌&&◌, List, [], ◌∷◌, ℕ, zero, suc, ◌+◌, ◌-◌, ◌*◌, eqb, leb, ltb, length, get_or, set}
use Rattle.entries.specs.Entries.{entry_at, entry_count, region_end}
use Rattle.entries.specs.Libraries.{Library}
use Rattle.opcode.specs.Decode.{Decoded, decode_at}
use Rattle.shape.specs.Shape.{shape_of}
use Rattle.layout.specs.Cut.{starts_in}
use Rattle.successors.specs.Successors.{switch_targets}
use Rattle.layout.specs.Workspace.{marks_in}
use Rattle.stackmap.specs.Ways.{parameters_in}
use Rattle.compact.specs.declared.top.Top.{Top}
use Rattle.compact_ways.specs.declared.Way.{Way}
use Rattle.compact_ways.specs.declared.Ways.{Ways}
use Rattle.compact_ways.specs.declared.Ways.TheVariants.{Broken, Ended, One, Two, Many}
use Rattle.compact.specs.Tops.{top}
use Rattle.compact_ways.specs.Ways.{toward, ways_top}

-- The answer of handing on: it broke, or nothing waits below an offset; and the workspace.
pub record Handing : Type 0 where
  pub answer : Option ℕ
  pub workspace : List ℕ

abbrev pub handing : Option ℕ → List ℕ → Handing
handing a w = record { answer = a; workspace = w }

-- An offset is given its list and waits.
unfoldable pub with_list : List ℕ → ℕ → ℕ → ℕ → List ℕ
with_list w t height origin = set (set (set w (4 * t) (height + 1)) (4 * t + 1) origin) (4 * t + 2) 1

abbrev pub least : ℕ → ℕ → ℕ
least a b = cond (ltb a b) a b

unfoldable pub taken_top : List ℕ → Way → ℕ → Handing
taken_top w a from =
    cond (eqb (get_or w (4 * a.place) 0) 0)
    (handing (Some (least a.place from)) (with_list w a.place a.height a.origin))
    (cond (eqb (get_or w (4 * a.place) 0) (a.height + 1) && eqb (get_or w (4 * a.place + 1) 0) a.origin) (handing (Some from) w)
    (handing None w))

unfoldable pub handed_top : (size p : ℕ) (a : Way) (from : ℕ) (w : List ℕ) → Handing
handed_top size p a from w =
    cond (starts_in (marks_in w size) p a.place && leb a.height 255) (taken_top w a from) (handing None w)

abbrev pub then_handing : (ℕ → List ℕ → Handing) → Option ℕ → List ℕ → Handing
then_handing go None w = handing None w
then_handing go (Some from) w = go from w

unfoldable pub handed_two : (size p : ℕ) (a b : Way) (from : ℕ) (w : List ℕ) → Handing
handed_two size p a b from w =
    let h = handed_top size p a from w in
    then_handing (handed_top size p b) h.answer h.workspace

-- The same list to every target.
abbrev pub handed_targets : ℕ → ℕ → Top → List ℕ → ℕ → List ℕ → Handing
handed_targets size p t [] from w = handing (Some from) w
handed_targets size p t (place ∷ places) from w =
    let h = handed_top size p (toward place t) from w in
    then_handing (handed_targets size p t places) h.answer h.workspace

unfoldable pub handed_ways : List ℕ → ℕ → ℕ → Ways → ℕ → List ℕ → Handing
handed_ways code p at Broken from w = handing None w
handed_ways code p at Ended from w = handing (Some from) w
handed_ways code p at (One a) from w = handed_top (length code) p a from w
handed_ways code p at (Two a b) from w = handed_two (length code) p a b from w
handed_ways code p at (Many table n t) from w = handed_targets (length code) p t (switch_targets code at table n) from w

-- The instruction at an offset passes its list on; nothing waits below the offset.
abbrev pub visited_with : List ℕ → List Library → List ℕ → List ℕ → ℕ → ℕ → Decoded → Handing
visited_with code libraries results w p at (Err e) = handing None w
visited_with code libraries results w p at (Ok (i, next)) =
    handed_ways code p at
    (ways_top code libraries results w p at next (shape_of i) (top (get_or w (4 * at) 0 - 1) (get_or w (4 * at + 1) 0))) (at + 1)
    (set w (4 * at + 2) 0)

unfoldable pub visited_top : List ℕ → List Library → List ℕ → ℕ → List ℕ → Handing
visited_top code libraries results at w =
    let p = get_or w (4 * at + 3) 0 - 1 in
    visited_with code libraries results w p at (decode_at code (region_end code p) at)

-- The first of n offsets from one on that waits, or the offset after them.
abbrev pub first_waiting : List ℕ → ℕ → ℕ → ℕ
first_waiting w at zero = at
first_waiting w at (suc n) = cond (eqb (get_or w (4 * at + 2) 0) 0) (first_waiting w (at + 1) n) at

-- Whether the walk went through, and the workspace.
pub record Walking : Type 0 where
  pub accepts : Bool
  pub workspace : List ℕ

abbrev pub walking : Bool → List ℕ → Walking
walking b w = record { accepts = b; workspace = w }

abbrev pub then_walk : (ℕ → List ℕ → Walking) → Option ℕ → List ℕ → Walking
then_walk go None w = walking false w
then_walk go (Some from) w = go from w

abbrev pub visit_first : List ℕ → List Library → List ℕ → (ℕ → List ℕ → Walking) → ℕ → List ℕ → Walking
visit_first code libraries results go at w =
    cond (ltb at (length code)) (let h = visited_top code libraries results at w in then_walk go h.answer h.workspace)
    (walking true w)

abbrev pub walk_top : List ℕ → List Library → List ℕ → ℕ → ℕ → List ℕ → Walking
walk_top code libraries results zero from w = walking true w
walk_top code libraries results (suc n) from w =
    visit_first code libraries results (walk_top code libraries results n) (first_waiting w from (length code - from)) w

-- The entries wait.
unfoldable pub with_entry : List ℕ → ℕ → List ℕ → List ℕ
with_entry code p w = with_list w (entry_at code p) (parameters_in code p) 0

abbrev pub with_entries : List ℕ → ℕ → ℕ → List ℕ → List ℕ
with_entries code p zero w = with_entry code 0 w
with_entries code p (suc n) w = with_entries code (p + 1) n (with_entry code p w)

unfoldable pub walked_top : List ℕ → List Library → List ℕ → List ℕ → Walking
walked_top code libraries results w = walk_top code libraries results (length code) 0 (with_entries code 1 (entry_count code - 1) w)
