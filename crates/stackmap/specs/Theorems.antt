-- What the walk finds, as statements: a map of every region, or that some region has none; and the map of just what is reached.
use Rattle.std.specs.Prelude.{true, cond, List, ◌≡◌, ℕ, ◌≤◌, ◌<◌, length}
use Rattle.std.proofs.Math.Option.{none, some}
use Rattle.words.specs.Bytes.{Bytes}
use Rattle.entries.specs.Entries.{entry_at, entry_count}
use Rattle.layout.specs.Cut.{starts_in}
use Rattle.stackmap.specs.Slots.{Slot}
use Rattle.stackmap.specs.Ways.{Subject}
use Rattle.stackmap.specs.StackMap.{Map, IsMap, Reached}
use Rattle.stackmap.specs.Walk.{States, map_of, walk_of}

-- What cutting a sound record gives: every procedure's entry is a start of its region, starts lie in the code, and bytes are bytes.
pub record WellCut (U : Subject) : Type 0 where
  pub counted : 1 ≤ entry_count U.code
  pub entries : (p : ℕ) → p < entry_count U.code → starts_in U.marks p (entry_at U.code p) ≡ true
  pub procedures : (p at : ℕ) → starts_in U.marks p at ≡ true → p < entry_count U.code
  pub within : (p at : ℕ) → starts_in U.marks p at ≡ true → at < length U.code
  pub bytes : Bytes U.code

-- The part of what the walk found that lies in procedure p's region.
abbrev pub map_in : Subject → ℕ → States → Map
map_in U p σ at = cond (starts_in U.marks p at) (map_of σ at) none

-- The walk finds a map of every region.
abbrev pub FindsMaps : Type 0
FindsMaps =
    (U : Subject) → WellCut U → (σ : States) → walk_of U ≡ some σ → (p : ℕ) → p < entry_count U.code → IsMap U p (map_in U p σ)

-- Where it breaks, some region has none.
abbrev pub RefutesMaps : Type 0
RefutesMaps =
    (U : Subject) → WellCut U → walk_of U ≡ none → (p : ℕ) × (p < entry_count U.code) × ((π : Map) → IsMap U p π → ⊥)

-- Whatever it found, at any offset, is reached from some procedure's entry.
abbrev pub FindsReached : Type 0
FindsReached =
    (U : Subject) → WellCut U → (σ : States) → walk_of U ≡ some σ → (at : ℕ) (l : List Slot) → map_of σ at ≡ some l
    → (p : ℕ) × (p < entry_count U.code) × Reached U p at l

-- Every map has what is reached, so that there is one map of the instructions reached.
abbrev pub HasReached : Type 0
HasReached = (U : Subject) (p : ℕ) (π : Map) → IsMap U p π → (at : ℕ) (l : List Slot) → Reached U p at l → π at ≡ some l
