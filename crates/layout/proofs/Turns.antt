-- The turns of the loops that cut: what is left to mark decides the whole, as the definitions unroll by one turn.
use mathlib.Core.Path.{◌≡◌, refl, ◌∙◌}
use mathlib.Core.List.{List}
use Prim.Native.Nat.{ℕ, ◌+◌, ◌*◌, ◌-◌, ◌<◌, ◌≤◌}
use native.Mathlib.Omega.{arith}
use borrow.Author.Tests.{lt-ltb}
use lib.ListN.{length, set, length-set}
use Rattle.entries.specs.Entries.{entry_at, entry_count, region_end}
use Rattle.words.proofs.Left.{one_left}
use Rattle.opcode.specs.Decode.{decode_at}
use Rattle.opcode.specs.Decode.{Decoded}
use Rattle.std.specs.Prelude.{Ok}
use Rattle.opcode.specs.declared.instruction.Instruction.{Instruction}
use Rattle.layout.specs.Workspace.{mark_at, mark_from, mark_region, then_mark, mark_procedures, mark_all}
use Rattle.workspace.specs.Checking.{checking}
use Rattle.opcode.proofs.Found.{ends}

-- In a region, k instructions are marked and `at` is reached.
pub record Region (code : List ℕ) (p : ℕ) (before w : List ℕ) (at k : ℕ) : Type 0 where
  pub rest : mark_from code p (length code - k) at w ≡ mark_region code p before
  pub near : at ≤ 65535
  pub kept : length w ≡ length before

pub region-start : (code : List ℕ) (p : ℕ) (w : List ℕ) (at : ℕ) → at ≡ entry_at code p → at ≤ 65535 → Region code p w w at 0
unfolding mark_region
region-start code p w at e h =
    let z : length code - 0 ≡ length code = omega arith in
    record { rest = rw (z, e); near = h; kept = refl }

module _ (code : List ℕ) (p : ℕ) (before w : List ℕ) (at k : ℕ) (r : Region code p before w at k) where
  module _ (limit : ℕ) (l : limit ≡ region_end code p) (h : k < length code) where
    -- The instruction at `at`, whatever it is, decides.
    region-turn :
        (d : Decoded) → at < limit → decode_at code limit at ≡ d →
        mark_at (mark_from code p (length code - (k + 1))) p at w d ≡ mark_region code p before
    region-turn d q e =
        rw (one_left k (length code) h, lt-ltb at (region_end code p) (rw l at q), rw l at e) at r.rest

    pub region-next :
        (i : Instruction) (next : ℕ) (w' : List ℕ) →
        at < limit → decode_at code limit at ≡ Ok (i, next) → limit ≤ 65535 → w' ≡ set w (4 * at + 3) (p + 1) →
        Region code p before w' next (k + 1)
    region-next i next w' q e f s = record {
      rest = rw s (region-turn (Ok (i, next)) q e);
      near = omega (arith, ends code limit at e);
      kept = rw s (length-set w (4 * at + 3) (p + 1) ∙ r.kept);
    }

-- The procedures before p are marked.
pub record Regions (code before w : List ℕ) (p : ℕ) : Type 0 where
  pub rest : mark_procedures code p (entry_count code - p) w ≡ mark_all code before
  pub kept : length w ≡ length before

pub regions-start : (code w : List ℕ) → Regions code w w 1
unfolding mark_all
regions-start code w = record { rest = refl; kept = refl }

module _ (code before w : List ℕ) (p : ℕ) (r : Regions code before w p) where
  module _ (h : p < entry_count code) (n : ℕ) (w' : List ℕ) (e : checking n w' ≡ mark_region code p w) where
    regions-turn : then_mark (mark_procedures code (p + 1) (entry_count code - (p + 1))) n w' ≡ mark_all code before
    regions-turn = rw (one_left p (entry_count code) h, ← e) at r.rest

    pub regions-next : n ≡ 0 → length w' ≡ length w → Regions code before w' (p + 1)
    regions-next z l = record { rest = rw z at regions-turn; kept = l ∙ r.kept }
