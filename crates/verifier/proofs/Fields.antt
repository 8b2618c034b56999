-- Four halfwords an offset: a change of the first three of one offset leaves the other offsets and all marks, and is read back.
use mathlib.Core.List.{List}
use mathlib.Core.Path.{◌≡◌, ◌∙◌}
use Prim.Native.Nat.{ℕ, ◌+◌, ◌*◌, ◌<◌, ◌≤◌}
use native.Mathlib.Omega.{arith}
use lib.ListN.{length, get_or, set, length-set}
use lib.Seq.{get_or-set_same, get_or-set_other}
use Rattle.layout.specs.Workspace.{marks_in}
use Rattle.layout.proofs.Updates.{Spares, spares_then, spares-set}
use Rattle.stackmap.specs.Slots.{Slot, top_origin}
use Rattle.stackmap.specs.Walk.{State, waiting}
use Rattle.verifier.specs.Handing.{with_list}
use Rattle.verifier.proofs.Coherence.{Shown}

-- v is w but for the first three halfwords of offset t.
abbrev pub Within : ℕ → List ℕ → List ℕ → Type 0
Within t = Spares (λ (i : ℕ). 4 * t ≤ i → i < 4 * t + 3 → ⊥)

pub within-set : (t : ℕ) (w : List ℕ) (i x : ℕ) → 4 * t ≤ i → i < 4 * t + 3 → Within t w (set w i x)
within-set t w i x low high = spares-set w i x λ j out e. out (omega arith) (omega arith)

pub within-list : (t : ℕ) (w : List ℕ) (height origin : ℕ) → Within t w (with_list w t height origin)
unfolding with_list
within-list t w height origin =
    spares_then (within-set t w (4 * t) (height + 1) (omega arith) (omega arith))
    (spares_then (within-set t (set w (4 * t) (height + 1)) (4 * t + 1) origin (omega arith) (omega arith))
    (within-set t (set (set w (4 * t) (height + 1)) (4 * t + 1) origin) (4 * t + 2) 1 (omega arith) (omega arith)))

-- An offset that is given a list shows it.
module _ (t : ℕ) (w : List ℕ) (l : List Slot) (room : 4 * t + 4 ≤ length w) where
  abbrev first : List ℕ
  first = set w (4 * t) (length l + 1)

  abbrev second : List ℕ
  second = set first (4 * t + 1) (top_origin l)

  pub list-shown : Shown (with_list w t (length l) (top_origin l)) t (waiting l)
  unfolding with_list
  list-shown =
      record {
        height =
            get_or-set_other second (4 * t + 2) (4 * t) 1 0 (λ e. omega arith)
            ∙ (get_or-set_other first (4 * t + 1) (4 * t) (top_origin l) 0 (λ e. omega arith)
            ∙ get_or-set_same w (4 * t) (length l + 1) 0 (omega arith));
        origin =
            get_or-set_other second (4 * t + 2) (4 * t + 1) 1 0 (λ e. omega arith)
            ∙ get_or-set_same first (4 * t + 1) (top_origin l) 0 (omega (arith, length-set w (4 * t) (length l + 1)));
        waits =
            get_or-set_same second (4 * t + 2) 1 0
            (omega (arith, length-set w (4 * t) (length l + 1), length-set first (4 * t + 1) (top_origin l)));
      }

-- The others, and the marks.
module _ (t : ℕ) {w v : List ℕ} (W : Within t w v) where
  pub shown-other : (a : ℕ) → (a ≡ t → ⊥) → {s : State} → Shown w a s → Shown v a s
  shown-other a other S =
      record {
        height = same 0 (4 * a) (omega arith) (omega arith) ∙ S.height;
        origin = same 1 (4 * a + 1) (omega arith) (omega arith) ∙ S.origin;
        waits = same 2 (4 * a + 2) (omega arith) (omega arith) ∙ S.waits;
      }
    where
      same : (k i : ℕ) → k < 4 → i ≡ 4 * a + k → get_or v i 0 ≡ get_or w i 0
      same k i h e = W.same i (λ a b. omega arith)

  pub marks-other : (size a : ℕ) → marks_in v size a ≡ marks_in w size a
  marks-other size a = rw (W.same (4 * a + 3) (λ l h. omega arith))
