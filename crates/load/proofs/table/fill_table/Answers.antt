-- `table::fill_table` meets its contract: each turn writes the row of one member behind those before it, and what is left
-- decides. The measure is the modules left.
use Prim.Native.Nat.{ℕ, ◌+◌, ◌*◌, ◌≤◌, ◌<◌}
use mathlib.Core.List.{List, []}
use mathlib.Core.Path.{◌≡◌, ◌∙◌, ap}
use native.Mathlib.Omega.{arith}
use lib.ListN.{length}
use Rattle.record.specs.Number.{record_number}
use Rattle.record.proofs.Sound.{sound-code}
use Rattle.module_set.specs.Members.{members_of}
use Rattle.module_set.proofs.Shares.{member-count}
use Rattle.relocation.proofs.Sound.{set_sound}
use Rattle.load.proofs.Modules.{set-few}
use Rattle.load.proofs.Tabling.{tabled_start, tabled-next, tabled-words, tabled-over}
use Rattle.load.proofs.table.fill_table.Goals.{After-code_of-code, After-record_of-r}
use Rattle.load.proofs.table.fill_table.Goals as goal

-- The record of a member is sound, and its row is within the table.
own : (c : After-record_of-r) →
    let loop = c.loop-k in
    (record_number c.record_of-r.result.now ≡ 0) × (5 * loop.k + 5 ≤ length loop.table)
own c =
    let record_of = c.record_of-r in
    let loop-test = c.loop-k-test in
    let loop = c.loop-k in
    let count = c.count-k-end in
    let a = c.args in
    let S = members_of a.records.now [] a.directory.now in
    let below : loop.k < length S = omega (arith, count.ensures a.records.now [], loop-test.true) in (
      ap record_number (record_of.ensures []) ∙ (set_sound S (c.requires.by_index [])).sound loop.k below,
      omega (arith, below, (loop.invariant.1 []).kept, c.requires.by_index_2 []),
    )

-- Its code is small.
small : (c : After-code_of-code) → (record_number c.record_of-r.result.now ≡ 0) →
    length c.code_of-code.result.now ≤ 4096
small c sound =
    omega (arith, ap length c.code_of-code.ensures, sound-code c.record_of-r.result.now sound)

pub loop-k-init : goal.loop-k-init
loop-k-init c =
    let count = c.count-k-end in
    let a = c.args in
    let pre = c.requires in (
      omega (
        arith,
        count.ensures a.records.now [],
        member-count a.records.now [] a.directory.now,
        set-few a.records.now [] a.directory.now (pre.by_index []),
      ),
      λ lists. tabled_start (members_of a.records.now lists a.directory.now) a.table.now,
    )

pub record_of-r-requires : goal.record_of-r-requires
record_of-r-requires c =
    let loop-test = c.loop-k-test in
    let loop = c.loop-k in
    omega (arith, loop.invariant.0, loop-test.true)

pub overflow_mul-k : goal.overflow_mul-k
overflow_mul-k c =
    let loop-test = c.loop-k-test in
    let loop = c.loop-k in
    omega (arith, loop.invariant.0, loop-test.true)

pub put_row-requires : goal.put_row-requires
put_row-requires c =
    let loop-test = c.loop-k-test in
    let loop = c.loop-k in
    let o = own (goal.at.put_row-requires c).After-record_of-r in
    record {
      r_value = o.0;
      at_bound = omega (arith, loop.invariant.0, loop-test.true, (loop.invariant.1 []).small);
      place_in_bounds = o.1;
    }

pub overflow_add-at : goal.overflow_add-at
overflow_add-at c =
    let loop-test = c.loop-k-test in
    let loop = c.loop-k in
    let at = goal.at.overflow_add-at c in
    let few = small at.After-code_of-code (own at.After-record_of-r).0 in
    omega (arith, loop.invariant.0, loop-test.true, (loop.invariant.1 []).small, few)

pub loop-k-preserved : goal.loop-k-preserved
loop-k-preserved c =
    let code_of_lem = c.code_of-code in
    let put-row = c.put_row in
    let record_of = c.record_of-r in
    let loop-test = c.loop-k-test in
    let loop = c.loop-k in
    let count = c.count-k-end in
    let a = c.args in
    let at = goal.at.loop-k-preserved c in
    let few = small at.After-code_of-code (own at.After-record_of-r).0 in (
      loop.invariant.0,
      λ lists. tabled-next (loop.invariant.1 lists) (omega (arith, count.ensures a.records.now lists, loop-test.true))
          record_of.result.now (record_of.ensures lists) _ put-row.ensures _ (ap length code_of_lem.ensures) few,
    )

pub returns : goal.returns
returns c =
    let loop-test = c.loop-k-test in
    let loop = c.loop-k in
    let count = c.count-k-end in
    let a = c.args in
    let pre = c.requires in
    let all : (lists : List ℕ) → length (members_of a.records.now lists a.directory.now) ≤ loop.k =
    λ lists. omega (arith, count.ensures a.records.now lists, loop-test.false) in (
      λ lists. tabled-words (loop.invariant.1 lists) (all lists),
      λ lists copy. tabled-over (loop.invariant.1 lists) (all lists) (pre.by_index_2 lists) copy,
    )
