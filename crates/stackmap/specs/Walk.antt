-- The walk that finds the least map of every region, or that some region has none: it takes the waiting instruction of the lowest
-- offset first. The entries rise in the order 1, 2, .., 0 and successors stay in their region, so that one walk over the code
-- takes the procedures in that order.
use Rattle.std.specs.Prelude.{cond, ◌&&◌, List, [], ◌∷◌, ℕ, zero, suc, ◌+◌, ◌-◌, leb, length}
use Rattle.std.proofs.Math.Option.{Option, none, some}
use Rattle.entries.specs.Entries.{entry_at, entry_count}
use Rattle.layout.specs.Cut.{updated, starts_in}
use Rattle.stackmap.specs.Slots.{Slot, same_slots}
use Rattle.stackmap.specs.Ways.{Subject, Way, ◌gets◌}
use Rattle.stackmap.specs.StackMap.{Map, ways_at, first_slots}

-- An offset has no list, has one and waits, or has one and has been passed on.
pub data State : Type 0 where
  blank : State
  waiting done : List Slot → State

abbrev pub States : Type 0
States = ℕ → State

abbrev pub slots_in : State → Option (List Slot)
slots_in blank = none
slots_in (waiting l) = some l
slots_in (done l) = some l

abbrev pub map_of : States → Map
map_of σ at = slots_in (σ at)

-- A list is handed to an offset: to a blank one, or exactly the one that it has.
abbrev pub taken : States → ℕ → List Slot → State → Option States
taken σ t l blank = some (updated σ t (waiting l))
taken σ t l (waiting k) = cond (same_slots k l) (some σ) none
taken σ t l (done k) = cond (same_slots k l) (some σ) none

abbrev pub handed : Subject → ℕ → States → Way → Option States
handed U p σ (t gets l) = cond (starts_in U.marks p t && leb (length l) 255) (taken σ t l (σ t)) none

abbrev pub then_hand : (States → Option States) → Option States → Option States
then_hand go none = none
then_hand go (some σ) = go σ

abbrev pub handed_all : Subject → ℕ → List Way → States → Option States
handed_all U p [] σ = some σ
handed_all U p (w ∷ ws) σ = then_hand (handed_all U p ws) (handed U p σ w)

abbrev pub passed : Subject → ℕ → States → Option (List Way) → Option States
passed U p σ none = none
passed U p σ (some out) = handed_all U p out σ

-- The instruction at an offset with a list passes it on.
unfoldable pub visited : Subject → ℕ → List Slot → States → Option States
visited U at l σ =
    let p = U.marks at - 1 in
    passed U p (updated σ at (done l)) (ways_at U p at l)

-- The first waiting offset of n from an offset on, with its list.
pub data Found : Type 0 where
  nowhere : Found
  found : ℕ → List Slot → Found

abbrev pub or_later : ℕ → Found → State → Found
or_later at later blank = later
or_later at later (waiting l) = found at l
or_later at later (done l) = later

abbrev pub waiting_from : States → ℕ → ℕ → Found
waiting_from σ at zero = nowhere
waiting_from σ at (suc n) = or_later at (waiting_from σ (at + 1) n) (σ at)

-- So many visits, as long as one waits. Each offset is visited once at most, so the size of the code is enough.
abbrev pub visit_next : Subject → (States → Option States) → States → Found → Option States
visit_next U go σ nowhere = some σ
visit_next U go σ (found at l) = then_hand go (visited U at l σ)

abbrev pub walk : Subject → ℕ → States → Option States
walk U zero σ = some σ
walk U (suc n) σ = visit_next U (walk U n) σ (waiting_from σ 0 (length U.code))

-- At first the entries wait: those of n procedures from p on, and procedure 0's.
abbrev pub entries_wait : Subject → ℕ → ℕ → States → States
entries_wait U p zero σ = updated σ (entry_at U.code 0) (waiting (first_slots U 0))
entries_wait U p (suc n) σ = entries_wait U (p + 1) n (updated σ (entry_at U.code p) (waiting (first_slots U p)))

-- All entries wait, and no other offset has a list.
abbrev pub first_states : Subject → States
first_states U = entries_wait U 1 (entry_count U.code - 1) (λ at. blank)

unfoldable pub walk_of : Subject → Option States
walk_of U = walk U (length U.code) (first_states U)
