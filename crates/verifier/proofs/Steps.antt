-- The turns of the loops that hand on, walk and give: what is left decides the whole, as the definitions unroll by one turn.
use mathlib.Core.List.{List}
use mathlib.Core.Path.{◌≡◌, refl, ◌∙◌}
use Prim.Native.Nat.{ℕ, ◌+◌, ◌-◌, ◌<◌, ◌≤◌}
use native.Mathlib.Nat.{sub-eq-zero_of_le}
use native.Mathlib.Omega.{arith}
use borrow.Author.Tests.{lt-ltb}
use lib.ListN.{length}
use Rattle.entries.specs.Entries.{entry_count}
use Rattle.entries.specs.Libraries.{Library}
use Rattle.words.proofs.Left.{one_left}
use Rattle.shape.specs.declared.Table.{Table}
use Rattle.successors.specs.Successors.{table_size, table_target, table_from}
use Rattle.compact.specs.declared.top.Top.{Top}
use Rattle.compact_ways.specs.Ways.{way}
use Rattle.std.specs.Prelude.{Option}
use Rattle.std.specs.Prelude.{Some}
use Rattle.verifier.specs.Handing.{handing, then_handing, handed_top, handed_targets, visited_top, first_waiting}
use Rattle.verifier.specs.Handing.{then_walk, walk_top, with_entry, with_entries}

-- The branches of a switch's table before k are handed their list; nothing waits below `low`.
pub record Branched (code before : List ℕ) (p at : ℕ) (table : Table) (n : ℕ) (t : Top) (from : ℕ) (w : List ℕ) (low k : ℕ) : Type 0 where
  pub rest :
      handed_targets (length code) p t (table_from code at table k (table_size table n - k)) low w
      ≡ handed_targets (length code) p t (table_from code at table 0 (table_size table n)) from before
  pub kept : length w ≡ length before

pub branched-start : {code w : List ℕ} {p at : ℕ} {table : Table} {n : ℕ} {t : Top} {from : ℕ} → Branched code w p at table n t from w from 0
branched-start {table = table} {n = n} =
    let z : table_size table n - 0 ≡ table_size table n = omega arith in
    record { rest = rw z; kept = refl }

module _ {code before : List ℕ} {p at : ℕ} {table : Table} {n : ℕ} {t : Top} {from : ℕ} {w : List ℕ} {low k : ℕ}
    (r : Branched code before p at table n t from w low k) where
  module _ (h : k < table_size table n) {place : ℕ} (f : place ≡ table_target code at table k) {a : Option ℕ} {w' : List ℕ}
      (e : handing a w' ≡ handed_top (length code) p (way place t.height t.origin) low w) where
    branched-turn :
        then_handing (handed_targets (length code) p t (table_from code at table (k + 1) (table_size table n - (k + 1)))) a w'
        ≡ handed_targets (length code) p t (table_from code at table 0 (table_size table n)) from before
    branched-turn = rw (one_left k (table_size table n) h, ← f, ← e) at r.rest

    pub branched-next : {next : ℕ} → a ≡ Some next → length w' ≡ length w → Branched code before p at table n t from w' next (k + 1)
    branched-next q l = record { rest = rw q at branched-turn; kept = l ∙ r.kept }

-- After k visits nothing waits below `from`.
pub record Walked (code : List ℕ) (libraries : List Library) (results before w : List ℕ) (from k : ℕ) : Type 0 where
  pub rest : walk_top code libraries results (length code - k) from w ≡ walk_top code libraries results (length code) 0 before
  pub kept : length w ≡ length before

pub walked_start : {code : List ℕ} {libraries : List Library} {results w : List ℕ} → Walked code libraries results w w 0 0
walked_start {code = code} = let z : length code - 0 ≡ length code = omega arith in record { rest = rw z; kept = refl }

module _ {code : List ℕ} {libraries : List Library} {results before w : List ℕ} {from k : ℕ}
    (r : Walked code libraries results before w from k) where
  module _ (h : k < length code) {at : ℕ} (f : at ≡ first_waiting w from (length code - from)) where
    module _ (q : at < length code) {a : Option ℕ} {w' : List ℕ} (e : handing a w' ≡ visited_top code libraries results at w) where
      walked-turn :
          then_walk (walk_top code libraries results (length code - (k + 1))) a w'
          ≡ walk_top code libraries results (length code) 0 before
      walked-turn = rw (one_left k (length code) h, ← f, lt-ltb at (length code) q, ← e) at r.rest

      pub walked_next : {next : ℕ} → a ≡ Some next → length w' ≡ length w → Walked code libraries results before w' next (k + 1)
      walked_next g l = record { rest = rw g at walked-turn; kept = l ∙ r.kept }

-- The entries of the procedures from 1 and before p wait.
pub record Entered (code before w : List ℕ) (p : ℕ) : Type 0 where
  pub rest : with_entries code p (entry_count code - p) w ≡ with_entries code 1 (entry_count code - 1) before
  pub kept : length w ≡ length before

pub entered-start : {code w : List ℕ} → Entered code w w 1
entered-start = record { rest = refl; kept = refl }

module _ {code before w : List ℕ} {p : ℕ} (r : Entered code before w p) where
  pub entered-last : entry_count code ≤ p → with_entry code 0 w ≡ with_entries code 1 (entry_count code - 1) before
  entered-last h = rw (sub-eq-zero_of_le h) at r.rest

  module _ (h : p < entry_count code) where
    entered-turn : with_entries code (p + 1) (entry_count code - (p + 1)) (with_entry code p w) ≡ with_entries code 1 (entry_count code - 1) before
    entered-turn = rw (one_left p (entry_count code) h) at r.rest

    pub entered-next : {w' : List ℕ} → w' ≡ with_entry code p w → length w' ≡ length w → Entered code before w' (p + 1)
    entered-next e l = record { rest = rw e entered-turn; kept = l ∙ r.kept }
