-- What holds of a mended record, as statements. `r` is a record that the numbers 1 to 3 do not refuse.
use Rattle.std.specs.Prelude.{Bool, true, false, cond, List, [], ◌∷◌, ◌++◌, ◌≡◌, ℕ, zero, suc, ◌+◌, ◌*◌, ◌-◌, eqb, length, take, drop}
use Rattle.words.specs.Bytes.{Bytes}
use Rattle.words.specs.Order.{rising_from}
use Rattle.header.specs.Header.{header_of, versions_at, sources_at}
use Rattle.version.specs.Version.{version_sound}
use Rattle.source.specs.Source.{source_sound}
use Rattle.record.specs.Number.{size_number}
use Rattle.mend.specs.Mend.{dropped_words, mended_record}

-- "Every other part is byte for byte the same": the sizes of the other parts, and all bytes from the import list to the
-- relocation table.
pub record SameParts (r r' : List ℕ) : Type 0 where
  pub sizes : take 20 r' ≡ take 20 r
  pub parts : take (versions_at (header_of r) - 28) (drop 28 r') ≡ take (versions_at (header_of r) - 28) (drop 28 r)
  -- A version table that is not malformed, and a source table that is sound, with their sizes.
  pub version : version_sound r (header_of r) ≡ true → ((header_of r').versions ≡ (header_of r).versions)
      × (take (sources_at (header_of r) - 28) (drop 28 r') ≡ take (sources_at (header_of r) - 28) (drop 28 r))
  pub source : source_sound r (header_of r) ≡ true → ((header_of r').sources ≡ (header_of r).sources)
      × (drop (sources_at (header_of r')) r' ≡ drop (sources_at (header_of r)) r)

abbrev pub KeepsParts : Type 0
KeepsParts = (r : List ℕ) → size_number r ≡ 0 → SameParts r (mended_record r)

-- "a sound record comes out identical", with nothing dropped.
abbrev pub KeepsSound : Type 0
KeepsSound =
    (r : List ℕ) → Bytes r → size_number r ≡ 0 → version_sound r (header_of r) ≡ true → source_sound r (header_of r) ≡ true
    → (mended_record r ≡ r) × (dropped_words r ≡ [])

-- What comes out is a record that the numbers 1 to 3 do not refuse, and neither do 5 and 6.
pub record IsMended (r : List ℕ) : Type 0 where
  pub sized : size_number r ≡ 0
  pub version : version_sound r (header_of r) ≡ true
  pub source : source_sound r (header_of r) ≡ true

abbrev pub Mends : Type 0
Mends = (r : List ℕ) → size_number r ≡ 0 → IsMended (mended_record r)

-- "mending twice changes nothing more".
abbrev pub MendsOnce : Type 0
MendsOnce =
    (r : List ℕ) → Bytes r → size_number r ≡ 0
    → (mended_record (mended_record r) ≡ mended_record r) × (dropped_words (mended_record r) ≡ [])

-- The places rise from the version table on, and lie in the old record.
abbrev pub PlacesRise : Type 0
PlacesRise = (r : List ℕ) → size_number r ≡ 0 → rising_from (length r) (versions_at (header_of r)) (dropped_words r) ≡ true

-- The new record is shorter by the dropped words, and never longer.
abbrev pub Shortens : Type 0
Shortens = (r : List ℕ) → size_number r ≡ 0 → length (mended_record r) + 4 * length (dropped_words r) ≡ length r

-- Whether a place is in the list.
abbrev pub is_listed : ℕ → List ℕ → Bool
is_listed at [] = false
is_listed at (x ∷ xs) = cond (eqb at x) true (is_listed at xs)

-- The bytes of n words from a place on, without those at the dropped places.
abbrev pub left_from : List ℕ → List ℕ → (at n : ℕ) → List ℕ
left_from r dropped at zero = []
left_from r dropped at (suc n) =
    cond (is_listed at dropped) (left_from r dropped (at + 4) n) (take 4 (drop at r) ++ left_from r dropped (at + 4) n)

-- What is left of both tables without the dropped words is what the new record has there. By `Shortens` each place is one of
-- their words.
abbrev pub DropsJustThese : Type 0
DropsJustThese =
    (r : List ℕ) → size_number r ≡ 0
    → left_from r (dropped_words r) (versions_at (header_of r)) ((header_of r).versions + (header_of r).sources)
    ≡ drop (versions_at (header_of r)) (mended_record r)
