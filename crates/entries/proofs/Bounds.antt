-- How large entries and region ends are, entries being halfwords.
use mathlib.Core.List.{List}
use Prim.Native.Nat.{ℕ, ◌*◌, ◌/◌, ◌≤◌}
use native.Mathlib.Omega.{arith}
use lib.Dec.{eqb}
use lib.ListN.{length}
use Rattle.words.proofs.Tests.{either}
use Rattle.words.specs.Bytes.{Bytes}
use Rattle.words.proofs.Bytes.{halfword-below}
use Rattle.entries.specs.Entries.{entry_at, entry_count, region_end}

module _ (code : List ℕ) (bytes : Bytes code) where
  entry-below : (p : ℕ) → entry_at code p ≤ 65535
  unfolding entry_at
  entry-below p = omega (arith, halfword-below code bytes (2 * p))

  pub region-below : (p : ℕ) → length code ≤ 65535 → region_end code p ≤ 65535
  unfolding region_end
  region-below p h = either (λ (k : ℕ). k ≤ 65535) (eqb p 0) (length code) _ h (entry-below _)

  pub count-below : entry_count code ≤ 32767
  unfolding entry_count
  count-below =
      let b = entry-below 1 in
      either (λ (k : ℕ). k ≤ 32767) (eqb (entry_at code 0) 2) 1 (entry_at code 1 / 2) (omega arith) (omega arith)
