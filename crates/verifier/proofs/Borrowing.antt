-- A code is examined with just its part of the workspace, and what lies past it stays.
use mathlib.Core.Bool.{true}
use mathlib.Core.List.{List, ◌++◌, append-nil}
use mathlib.Core.Path.{◌≡◌, ◌∙◌, ap}
use Prim.Native.Nat.{ℕ, ◌*◌, ◌≤◌}
use lib.ListN.{length, take, drop, replicate}
use lib.Seq.{length-take-le, slice_empty}
use Rattle.words.specs.Bytes.{Bytes}
use Rattle.entries.specs.Entries.{entries_sound}
use Rattle.entries.specs.Libraries.{Library}
use Rattle.workspace.specs.Checking.{Checking, checking}
use Rattle.verifier.specs.Check.{Verdict, refuted, accepted, concluded, shown_from}
use Rattle.verifier.specs.Examine.{examined_top, examined_of}
use Rattle.verifier.proofs.Concluding.{examined-concludes}

abbrev joined : Checking → List ℕ → Checking
joined c rest = checking c.number (c.workspace ++ rest)

joins : (size : ℕ) (w : List ℕ) (v : Verdict)
    → joined (concluded size (take (4 * size) w) v) (drop (4 * size) w) ≡ concluded size w v
joins size w (refuted n) = rw (slice_empty (4 * size) w, append-nil {A = ℕ} (replicate (4 * size) 0))
joins size w (accepted σ) = rw (slice_empty (4 * size) w, append-nil (shown_from σ 0 size))

pub lends : (code : List ℕ) (libraries : List Library) (results w : List ℕ) → entries_sound code ≡ true → Bytes code
    → 4 * length code ≤ length w
    → (n : ℕ) (p : List ℕ) → checking n p ≡ examined_top code libraries results (take (4 * length code) w)
    → checking n (p ++ drop (4 * length code) w) ≡ concluded (length code) w (examined_of code libraries results)
lends code libraries results w sound bytes room n p e =
    let size = 4 * length code in
    ap (λ (c : Checking). joined c (drop size w))
    (e ∙ examined-concludes code libraries results (take size w) sound bytes (length-take-le size w room))
    ∙ joins (length code) w (examined_of code libraries results)
