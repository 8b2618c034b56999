-- What the copies have is carried over to the records: a procedure has the same parameters in both, so that the active calls are the
-- same; and labels read alike, so that a share holds the words that the record's slots say.
use mathlib.Core.List.{List, [], ◌∷◌}
use mathlib.Core.Path.{◌≡◌, ◌∙◌, refl, ap}
use Prim.Native.Nat.{ℕ, ◌<◌}
use lib.ListN.{length}
use Rattle.entries.specs.Entries.{entry_count}
use Rattle.opcode.specs.Decode.{decode_at}
use Rattle.shape.specs.Shape.{shape_of}
use Rattle.shape.specs.Linkage.{Linkage, inside, calling, calling_external, entering, returning, linkage_of}
use Rattle.registers.specs.Modules.{Modules}
use Rattle.registers.specs.Program.{Program}
use Rattle.stackmap.specs.Slots.{Slot, word, label}
use Rattle.stackmap.specs.Ways.{parameters_in}
use Rattle.relocated.proofs.Labels.{Labels, no_slot, a_word, a-label}
use Rattle.relocated.proofs.Maps.{Alike}
use Rattle.invariant.specs.Active.{Call, Subjects, running_member, Configuration, calls_by, calls_decoded, step_on, advance}
use Rattle.invariant.specs.Shares.{Holds, holds_none, holds_word, holds_label}
use Rattle.invariant.proofs.Invariant.{registers_of, Inv}
use Rattle.invariant.proofs.Places.{Together}
use Rattle.invariant.proofs.Advance.{Is, shape_is, same, at_place, external}

pub holds-carried : (code copy s : List ℕ) (bottom : ℕ) (l : List Slot) → Labels (Alike code copy) l → Holds copy s bottom l
    → Holds code s bottom l
holds-carried code copy s bottom [] no_slot holds_none = holds_none
holds-carried code copy s bottom (word ∷ l) (a_word L) (holds_word H) = holds_word (holds-carried code copy s bottom l L H)
holds-carried code copy s bottom (label origin ∷ l) (a-label A L) (holds_label e H) =
    holds_label {bottom = bottom} {origin = origin} {l = l} (e ∙ A.says) (holds-carried code copy s bottom l L H)

-- Us are the records, and Vs the copies, which run.
module _ (Ms : Modules) (Us Vs : Subjects)
    (alike : (k p : ℕ) → k < length Ms → p < entry_count (Vs k).code → parameters_in (Vs k).code p ≡ parameters_in (Us k).code p)
    (T : Together Ms Vs) (c : Configuration) (I : Inv Ms Vs c) where
  calls_by_lem : (x : Linkage) → Is (shape_of (at_place Ms Vs T c I).instruction) x
      → calls_by Us (registers_of c) (at_place Ms Vs T c I).next x c.calls
      ≡ calls_by Vs (registers_of c) (at_place Ms Vs T c I).next x c.calls
  calls_by_lem inside e = refl
  calls_by_lem (calling p) e =
      rw (alike (running_member c.calls) p I.placed.member ((at_place Ms Vs T c I).callable p e).1)
  calls_by_lem (calling_external k p) e = let x = external Ms Vs T c I k p e in rw (alike k p x.1 x.2.1)
  calls_by_lem (entering par) e = refl
  calls_by_lem returning e = refl

  -- Of any code that is the running one.
  calls-after : (code : List ℕ) → code ≡ (Vs (running_member c.calls)).code
      → calls_decoded Us (registers_of c) c.calls (decode_at code (length code) (registers_of c).pc)
      ≡ calls_decoded Vs (registers_of c) c.calls (decode_at code (length code) (registers_of c).pc)
  calls-after code e =
      let here = at_place Ms Vs T c I in
      rw (e, here.decoded) (calls_by_lem (linkage_of (shape_of here.instruction)) (shape_is (shape_of here.instruction)))

  pub advance-same : advance Ms Us c ≡ advance Ms Vs c
  advance-same =
      ap (λ (calls : List Call). record { state = (step_on Ms c).state; calls = calls })
      (calls-after _ (ap (λ (P : Program). P.code) (same Ms Vs T c I)))
