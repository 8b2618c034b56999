-- Stack maps (01: pictures). "A picture gives some instruction starts of a region a list of slots, at most 255."
use Rattle.std.specs.Prelude.{Err, Ok, true, List, [], ◌∷◌, ◌≡◌, ℕ, ◌≤◌, length}
use Rattle.std.proofs.Math.Option.{Option, none, some}
use Rattle.entries.specs.Entries.{entry_at, region_end}
use Rattle.opcode.specs.Decode.{Decoded, decode_at}
use Rattle.shape.specs.Shape.{shape_of}
use Rattle.layout.specs.Cut.{starts_in}
use Rattle.stackmap.specs.Slots.{Slot, push_words}
use Rattle.stackmap.specs.Ways.{Subject, Way, ◌gets◌, parameters_in, ways}

-- The ways out of what is decoded at an offset of procedure p.
abbrev pub ways_of : Subject → ℕ → ℕ → List Slot → Decoded → Option (List Way)
ways_of U p at l (Err e) = none
ways_of U p at l (Ok (i, next)) = ways U p at next (shape_of i) l

unfoldable pub ways_at : Subject → ℕ → ℕ → List Slot → Option (List Way)
ways_at U p at l = ways_of U p at l (decode_at U.code (region_end U.code p) at)

-- A list for some offsets.
abbrev pub Map : Type 0
Map = ℕ → Option (List Slot)

-- "gives every successor exactly that list".
pub data GivesEach (π : Map) : List Way → Type 0 where
  gives_none : GivesEach π []
  gives_one : {t : ℕ} {l : List Slot} {ws : List Way} → π t ≡ some l → GivesEach π ws → GivesEach π (t gets l ∷ ws)

-- What a map has at an offset is as it must be: a start of the region, at most 255 slots, and its ways out given.
pub record Obeys (U : Subject) (p : ℕ) (π : Map) (at : ℕ) (l : List Slot) : Type 0 where
  pub start : starts_in U.marks p at ≡ true
  pub short : length l ≤ 255
  pub out : List Way
  pub found : ways_at U p at l ≡ some out
  pub gives : GivesEach π out

-- "The first instruction is given the parameter words of its ENTER (procedure 0: none)."
abbrev pub first_slots : Subject → ℕ → List Slot
first_slots U p = push_words (parameters_in U.code p) []

-- A map of procedure p's region.
pub record IsMap (U : Subject) (p : ℕ) (π : Map) : Type 0 where
  pub first : π (entry_at U.code p) ≡ some (first_slots U p)
  pub obeys : (at : ℕ) (l : List Slot) → π at ≡ some l → Obeys U p π at l

-- "From here on the picture is that of just the instructions reached from the entry."
pub data Among (t : ℕ) (l : List Slot) : List Way → Type 0 where
  here : {ws : List Way} → Among t l (t gets l ∷ ws)
  there : {w : Way} {ws : List Way} → Among t l ws → Among t l (w ∷ ws)

pub data Reached (U : Subject) (p : ℕ) : ℕ → List Slot → Type 0 where
  entered : Reached U p (entry_at U.code p) (first_slots U p)
  stepped : {at t : ℕ} {l k : List Slot} {out : List Way} → Reached U p at l → ways_at U p at l ≡ some out → Among t k out
      → Reached U p t k
