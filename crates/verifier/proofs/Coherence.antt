-- Height and topmost label stand for a list of slots: what that means, and which workspace shows which lists. A label lies on the list
-- that its origin found, so that the lists given so far and the two numbers determine a list.
use mathlib.Core.Bool.{true, false}
use mathlib.Core.List.{List, [], ◌∷◌}
use mathlib.Core.Option.{Option, none, some}
use mathlib.Core.Path.{◌≡◌}
use Prim.Native.Nat.{ℕ, ◌+◌, ◌*◌}
use lib.ListN.{length, get_or}
use Rattle.shape.specs.declared.Table.{Table}
use Rattle.successors.specs.Successors.{switch_targets}
use Rattle.stackmap.specs.Slots.{Slot, word, label, pop_words, top_origin}
use Rattle.stackmap.specs.Ways.{Way, ◌gets◌, is_iter, is_switch, to_all}
use Rattle.stackmap.specs.StackMap.{Map}
use Rattle.stackmap.specs.Walk.{State, blank, waiting, done}
use Rattle.compact.specs.declared.top.Top.{Top}
use Rattle.compact_ways.specs.declared.Way.{Way as Compact}
use Rattle.compact_ways.specs.declared.Ways.{Ways}
use Rattle.compact_ways.specs.declared.Ways.TheVariants.{Broken, Ended, One, Two, Many}
use Rattle.compact.specs.Tops.{top}
use Rattle.compact_ways.specs.Ways.{way}
use Rattle.verifier.specs.Check.{shown_state}
use Rattle.verifier.specs.Exact.{Shows}

-- The list l lies under the label of an origin: ITER's label on the list that ITER found, four words on top; a switch's in place of
-- the word that the switch found.
pub data Lies (code : List ℕ) (π : Map) (origin : ℕ) (l : List Slot) : Type 0 where
  on-iter : is_iter code origin ≡ true → π origin ≡ some l → (rest : List Slot) → pop_words 4 l ≡ some rest → Lies code π origin l
  on_switch : is_iter code origin ≡ false → is_switch code origin ≡ true → π origin ≡ some (word ∷ l) → Lies code π origin l

pub data Coherent (code : List ℕ) (π : Map) : List Slot → Type 0 where
  on-nothing : Coherent code π []
  on_word : {l : List Slot} → Coherent code π l → Coherent code π (word ∷ l)
  on-label : {origin : ℕ} {l : List Slot} → Lies code π origin l → Coherent code π l → Coherent code π (label origin ∷ l)

-- The third halfword of an offset tells whether it waits.
abbrev pub waits_in : State → ℕ
waits_in blank = 0
waits_in (waiting l) = 1
waits_in (done l) = 0

-- The first three halfwords of an offset in the workspace show its state.
pub record Shown (w : List ℕ) (at : ℕ) (s : State) : Type 0 where
  pub height : get_or w (4 * at) 0 ≡ get_or (shown_state s) 0 0
  pub origin : get_or w (4 * at + 1) 0 ≡ get_or (shown_state s) 1 0
  pub waits : get_or w (4 * at + 2) 0 ≡ waits_in s

-- The workspace shows the lists of a map where it has one.
abbrev pub ShowsMap : List ℕ → Map → Type 0
ShowsMap w π = (at : ℕ) (l : List Slot) → π at ≡ some l → Shows w at l

abbrev pub top_of : List Slot → Top
top_of l = top (length l) (top_origin l)

abbrev pub compact_of : Way → Compact
compact_of (t gets l) = way t (length l) (top_origin l)

-- The compact ways stand for the ways over lists; `at` is the offset of the instruction.
pub data Stands (code : List ℕ) (at : ℕ) : Ways → Option (List Way) → Type 0 where
  broken : Stands code at Broken none
  ended : Stands code at Ended (some [])
  one : (a : Way) → Stands code at (One (compact_of a)) (some (a ∷ []))
  two : (a b : Way) → Stands code at (Two (compact_of a) (compact_of b)) (some (a ∷ b ∷ []))
  many : (t : Table) (n : ℕ) (l : List Slot) → Stands code at (Many t n (top_of l)) (some (to_all (switch_targets code at t n) l))

-- Every list that is given away is coherent.
pub data AllCoherent (code : List ℕ) (π : Map) : List Way → Type 0 where
  no_way : AllCoherent code π []
  a-way : {t : ℕ} {l : List Slot} {ws : List Way} → Coherent code π l → AllCoherent code π ws → AllCoherent code π (t gets l ∷ ws)
