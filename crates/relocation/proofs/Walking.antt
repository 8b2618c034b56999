-- The turns of the loops that mark: what is left to mark decides the whole, as the definitions unroll by one turn.
use mathlib.Core.Bool.{Bool, true, false, cond}
use mathlib.Core.List.{List, [], ◌∷◌}
use mathlib.Core.Path.{◌≡◌, ◌∙◌, refl, sym}
use Prim.Native.Nat.{ℕ, ◌+◌, ◌-◌, ◌<◌}
use lib.ListN.{length, set}
use borrow.Author.Tests.{lt-ltb}
use Rattle.words.proofs.Left.{one_left}
use Rattle.entries.specs.Entries.{entry_at, entry_count, region_end}
use Rattle.opcode.specs.Decode.{decode_at}
use Rattle.opcode.specs.Decode.{Decoded}
use Rattle.std.specs.Prelude.{Ok, Err}
use Rattle.opcode.specs.declared.DecodeError.{DecodeError}
use Rattle.opcode.specs.declared.DecodeError.TheVariants.{Unserved, Past}
use Rattle.opcode.specs.declared.instruction.Instruction.{Instruction}
use Rattle.relocation.specs.Places.{is_external, library_byte, places_at, places_from, places_over, library_places}
use Rattle.relocation.specs.Marks.{marked}
use Rattle.relocation.proofs.Marking.{marked_append, marked-length}

-- The library byte of one instruction.
one-marked : (m : List ℕ) (b : Bool) (x : ℕ) → marked m (cond b (x ∷ []) []) ≡ cond b (set m x 1) m
one-marked m true x = refl
one-marked m false x = refl

-- In a region, k instructions are passed and `at` is reached.
pub record Region (code : List ℕ) (p : ℕ) (before m : List ℕ) (at k : ℕ) : Type 0 where
  pub rest : marked m (places_from code p (length code - k) at) ≡ marked before (places_from code p (length code) (entry_at code p))
  pub kept : length m ≡ length before

module _ {code : List ℕ} {p : ℕ} {before m : List ℕ} {at k : ℕ} (r : Region code p before m at k) where
  module _ (limit : ℕ) (l : limit ≡ region_end code p) (h : k < length code) where
    -- What stands at `at` decides.
    pub region-turn :
        (d : Decoded) → at < limit → decode_at code limit at ≡ d →
        marked m (places_at (places_from code p (length code - (k + 1))) at d)
        ≡ marked before (places_from code p (length code) (entry_at code p))
    region-turn d q e =
        rw (one_left k (length code) h, lt-ltb at (region_end code p) (rw l at q), rw l at e) at r.rest

    pub region-ends : (e : DecodeError) → at < limit → decode_at code limit at ≡ Err e
        → m ≡ marked before (places_from code p (length code) (entry_at code p))
    region-ends Unserved q d = region-turn (Err Unserved) q d
    region-ends Past q d = region-turn (Err Past) q d

    pub region-next :
        (i : Instruction) (next : ℕ) (b : Bool) (m' : List ℕ) → at < limit → decode_at code limit at ≡ Ok (i, next) →
        b ≡ is_external i →
        m' ≡ cond b (set m (at + 1) 1) m → length m' ≡ length m → Region code p before m' next (k + 1)
    region-next i next b m' q e f s long =
        let one : m' ≡ marked m (library_byte at i) = s ∙ rw f (sym (one-marked m (is_external i) (at + 1))) in
        record {
          rest = rw one
              (sym (marked_append m (library_byte at i) (places_from code p (length code - (k + 1)) next))
              ∙ region-turn (Ok (i, next)) q e);
          kept = long ∙ r.kept;
        }

-- The procedures before p are passed.
pub record Regions (code before m : List ℕ) (p : ℕ) : Type 0 where
  pub rest : marked m (places_over code p (entry_count code - p)) ≡ marked before (library_places code)
  pub kept : length m ≡ length before

pub regions-start : (code m : List ℕ) → Regions code m m 1
unfolding library_places
regions-start code m = record { rest = refl; kept = refl }

module _ {code before m : List ℕ} {p : ℕ} (r : Regions code before m p) (m' : List ℕ) where
  pub regions-next :
      p < entry_count code → m' ≡ marked m (places_from code p (length code) (entry_at code p)) → Regions code before m' (p + 1)
  regions-next h e =
      let own = places_from code p (length code) (entry_at code p) in
      let others = places_over code (p + 1) (entry_count code - (p + 1)) in
      record {
        rest = rw e (sym (marked_append m own others) ∙ (rw (one_left p (entry_count code) h) at r.rest));
        kept = rw e (marked-length m own ∙ r.kept);
      }
