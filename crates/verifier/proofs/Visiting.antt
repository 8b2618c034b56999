-- A visit of a waiting offset does the same on both sides: it is marked done, and its ways out, which stand for one another, are
-- handed on.
use mathlib.Core.List.{List}
use mathlib.Core.Option.{some}
use mathlib.Core.Path.{◌≡◌, refl, sym, ap, ◌∙◌}
use Prim.Native.Nat.{ℕ, ◌+◌, ◌-◌, ◌*◌, ◌<◌}
use native.Mathlib.Omega.{arith}
use lib.ListN.{length, get_or, set}
use lib.Seq.{get_or-set_same, get_or-set_other}
use borrow.Author.Tests.{lt-ltb}
use Rattle.entries.specs.Entries.{region_end}
use Rattle.opcode.specs.Decode.{decode_at}
use Rattle.opcode.specs.Decode.{Decoded}
use Rattle.opcode.specs.declared.DecodeError.TheVariants.{Unserved, Past}
use Rattle.std.specs.Prelude.{Err, Ok}
use Rattle.shape.specs.Shape.{shape_of}
use Rattle.layout.specs.Cut.{updated}
use Rattle.stackmap.specs.Slots.{Slot, top_origin}
use Rattle.stackmap.specs.Ways.{Subject}
use Rattle.stackmap.specs.StackMap.{ways_of, ways_at}
use Rattle.stackmap.specs.Walk.{waiting, done, States, slots_in, map_of, passed, visited}
use Rattle.stackmap.specs.Theorems.{WellCut}
use Rattle.layout.proofs.Updates.{Change, changed, spared, change}
use Rattle.stackmap.proofs.Counts.{done-waits}
use Rattle.stackmap.proofs.Placing.{owner, Grows, grows-change}
use Rattle.compact.specs.Tops.{top}
use Rattle.verifier.specs.Handing.{visited_with, visited_top}
use Rattle.verifier.proofs.Coherence.{top_of}
use Rattle.verifier.proofs.Agreement.{ways-stand}
use Rattle.verifier.proofs.Passing.{ways-coherent}
use Rattle.verifier.proofs.Fields.{Within, within-set}
use Rattle.verifier.proofs.Keeping.{Clear, Sim, shows-map, sim-change, all-grow}
use Rattle.verifier.proofs.Parallel.{Parallel, both-stop, parallel-after, ways-alike}

module _ (U : Subject) (S : WellCut U) (w : List ℕ) (σ : States) (from : ℕ) (X : Sim U w σ from) (at : ℕ) (l : List Slot)
    (h : at < length U.code) (waits : σ at ≡ waiting l) (c : Clear σ at) where
  has : map_of σ at ≡ some l
  has = ap slots_in waits

  high : get_or w (4 * at) 0 ≡ length l + 1
  high = (shows-map X.held at l has).height

  low : get_or w (4 * at + 1) 0 ≡ top_origin l
  low = (shows-map X.held at l has).origin

  found : top (get_or w (4 * at) 0 - 1) (get_or w (4 * at + 1) 0) ≡ top_of l
  found = rw (high, low) (ap (λ (n : ℕ). top n (top_origin l)) (omega arith))

  of-procedure : get_or w (4 * at + 3) 0 ≡ U.marks at
  of-procedure = rw (lt-ltb at (length U.code) h) at (X.held.marks at)

  -- It is marked done.
  abbrev cleared : List ℕ
  cleared = set w (4 * at + 2) 0

  marked : Within at w cleared
  marked = within-set at w (4 * at + 2) 0 (omega arith) (omega arith)

  same : (j : List Slot) → map_of σ at ≡ some j → j ≡ l
  same j e = cc

  grown : Grows (map_of σ) (map_of (updated σ at (done l)))
  grown = grows-change σ at (done l) l refl same

  finished : Sim U cleared (updated σ at (done l)) (at + 1)
  finished =
      sim-change at (done l) l (at + 1) X h marked
      (record {
        height = get_or-set_other w (4 * at + 2) (4 * at) 0 0 (λ e. omega arith) ∙ high;
        origin = get_or-set_other w (4 * at + 2) (4 * at + 1) 0 0 (λ e. omega arith) ∙ low;
        waits = get_or-set_same w (4 * at + 2) 0 0 (omega (arith, X.held.room));
      })
      refl same (X.coherent at l has) λ a j b e. by a j b e (change σ at (done l) a)
    where
      by : (a : ℕ) (j : List Slot) → a < at + 1 → updated σ at (done l) a ≡ waiting j → Change σ at (done l) a → ⊥
      by a j b e (changed g q) = done-waits q e
      by a j b e (spared g q) = c a j (omega arith) (sym q ∙ e)

  decoded : (d : Decoded) → decode_at U.code (region_end U.code (owner U at)) at ≡ d
      → Parallel U w σ (visited_with U.code U.libraries U.results w (owner U at) at d)
      (passed U (owner U at) (updated σ at (done l)) (ways_of U (owner U at) at l d))
  decoded (Err Unserved) e = both-stop refl
  decoded (Err Past) e = both-stop refl
  decoded (Ok (i, next)) e =
      rw found
      (parallel-after marked.long grown
      (ways-alike U S (owner U at) at cleared (updated σ at (done l)) (at + 1) finished
      (ways-stand U (owner U at) at next (shape_of i) w (map_of σ) l (X.coherent at l has) (shows-map X.held))
      λ out g. all-grow grown
      (ways-coherent U (owner U at) at next (region_end U.code (owner U at)) i (map_of σ) l out e (X.coherent at l has) has g)))

  pub visit-alike : Parallel U w σ (visited_top U.code U.libraries U.results at w) (visited U at l σ)
  unfolding visited_top visited ways_at
  visit-alike = rw of-procedure (decoded (decode_at U.code (region_end U.code (owner U at)) at) refl)
