-- At first the entries wait on both sides: their lists are words, which are coherent whatever else is given.
use mathlib.Core.List.{List, []}
use mathlib.Core.Option.{some, none-ne-some}
use mathlib.Core.Path.{◌≡◌, refl, ◌∙◌}
use Prim.Native.Nat.{ℕ, zero, suc, ◌+◌, ◌-◌, ◌*◌, ◌<◌, ◌≤◌}
use native.Mathlib.Omega.{arith}
use lib.ListN.{length}
use Rattle.entries.specs.Entries.{entry_at, entry_count}
use Rattle.layout.specs.Cut.{updated}
use Rattle.layout.specs.Workspace.{marks_in}
use Rattle.stackmap.specs.Slots.{Slot, push_words}
use Rattle.stackmap.specs.Ways.{Subject, parameters_in}
use Rattle.stackmap.specs.StackMap.{Map}
use Rattle.stackmap.specs.Walk.{blank, waiting, States, map_of, entries_wait, first_states}
use Rattle.stackmap.specs.Theorems.{WellCut}
use Rattle.stackmap.proofs.Entering.{entering}
use Rattle.stackmap.proofs.Pushing.{words-height, pushed-origin}
use Rattle.stackmap.proofs.Placing.{told-change}
use Rattle.verifier.specs.Handing.{with_list, with_entry, with_entries}
use Rattle.verifier.proofs.Coherence.{Coherent, on-nothing, Shown}
use Rattle.verifier.proofs.Passing.{pushed}
use Rattle.verifier.proofs.Fields.{Within, within-list, list-shown}
use Rattle.verifier.proofs.Keeping.{Held, held-change, Sim}

-- Only lists that are coherent with any map have been given.
record Fresh (U : Subject) (start w : List ℕ) (σ : States) : Type 0 where
  kept : length w ≡ length start
  held : Held U w σ
  free : (at : ℕ) (l : List Slot) → map_of σ at ≡ some l → (π : Map) → Coherent U.code π l

-- An offset is given n words.
module _ (U : Subject) (start w : List ℕ) (σ : States) (F : Fresh U start w σ) (t n : ℕ) (h : t < length U.code) where
  here : Within t w (with_list w t n 0)
  here = within-list t w n 0

  words-shown : Shown (with_list w t n 0) t (waiting (push_words n []))
  words-shown =
      rw (words-height n, pushed-origin n []) at (list-shown t w (push_words n []) (omega (arith, F.held.room)))

  words-wait : Fresh U start (with_list w t n 0) (updated σ t (waiting (push_words n [])))
  words-wait =
      record {
        kept = here.long ∙ F.kept;
        held = held-change U w (with_list w t n 0) σ t (waiting (push_words n [])) (push_words n []) here h refl F.held words-shown;
        free = told-change σ t (waiting (push_words n [])) (push_words n []) refl
            (λ (at : ℕ) (l : List Slot). (π : Map) → Coherent U.code π l) (λ π. pushed n [] on-nothing) F.free;
      }

module _ (U : Subject) (S : WellCut U) (start : List ℕ) where
  enter_one : (p : ℕ) (w : List ℕ) (σ : States) → p < entry_count U.code → Fresh U start w σ
      → Fresh U start (with_entry U.code p w) (entering U p σ)
  unfolding with_entry
  enter_one p w σ b F =
      words-wait U start w σ F (entry_at U.code p) (parameters_in U.code p)
      (S.within p (entry_at U.code p) (S.entries p b))

  enter-all : (n p : ℕ) (w : List ℕ) (σ : States) → p + n ≤ entry_count U.code → Fresh U start w σ
      → Fresh U start (with_entries U.code p n w) (entries_wait U p n σ)
  enter-all zero p w σ b F = enter_one 0 w σ S.counted F
  enter-all (suc n) p w σ b F =
      enter-all n (p + 1) (with_entry U.code p w) (entering U p σ) (omega arith) (enter_one p w σ (omega arith) F)

abbrev pub first_space : List ℕ → List ℕ → List ℕ
first_space code w = with_entries code 1 (entry_count code - 1) w

pub start-alike : (U : Subject) (w : List ℕ) → WellCut U → 4 * length U.code ≤ length w
    → ((at : ℕ) → at < length U.code → Shown w at blank) → ((at : ℕ) → marks_in w (length U.code) at ≡ U.marks at)
    → (length (first_space U.code w) ≡ length w) × Sim U (first_space U.code w) (first_states U) 0
start-alike U w S room blanks marks =
    let bare : Held U w (λ at. blank) =
    record { room = room; marks = marks; shown = blanks; inside = λ at l e. absurd (none-ne-some l e) } in
    let F : Fresh U w (first_space U.code w) (first_states U) =
    enter-all U S w (entry_count U.code - 1) 1 w (λ at. blank) (omega (arith, S.counted))
    (record { kept = refl; held = bare; free = λ at l e. absurd (none-ne-some l e) }) in
    let first : Sim U (first_space U.code w) (first_states U) 0 =
    record {
      held = F.held;
      coherent = λ at l e. F.free at l e (map_of (first_states U));
      clear = λ at l h e. absurd (omega arith);
    } in
    (F.kept, first)
