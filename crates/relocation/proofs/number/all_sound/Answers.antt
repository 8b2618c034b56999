-- `number::all_sound` meets its contract: the members from one on decide. The measure is the modules left.
use Prim.Native.Nat.{ℕ, ◌<◌}
use mathlib.Core.List.{List, []}
use mathlib.Core.Path.{◌∙◌, refl, ap}
use native.Mathlib.Omega.{arith}
use lib.ListN.{length}
use Rattle.record.specs.Number.{record_number}
use Rattle.module_set.specs.Members.{members_of}
use Rattle.module_set.proofs.Every.{members-sound}
use Rattle.module_set.proofs.Shares.{member-count}
use Rattle.relocation.proofs.number.all_sound.Goals.{After-record_of-r}
use Rattle.relocation.proofs.number.all_sound.Goals as goal

-- A member is below their number.
below : (c : After-record_of-r) (lists : List ℕ) →
    let a = c.args in
    c.loop-k.k < length (members_of a.records.now lists a.directory.now)
below c lists =
    let count = c.count-k-end in
    let a = c.args in
    omega (arith, count.ensures a.records.now lists, c.loop-k-test.true)

pub loop-k-init : goal.loop-k-init
loop-k-init c =
    let count = c.count-k-end in
    let a = c.args in
    let pre = c.requires in (
      omega (arith, count.ensures [] [], member-count [] [] a.directory.now, pre.directory_len_bound),
      λ lists. refl,
    )

pub is_relocation_sound-requires : goal.is_relocation_sound-requires
is_relocation_sound-requires c =
    let record_of = c.record_of-r in
    let loop = c.loop-k in
    let a = c.args in
    let pre = c.requires in
    let S = members_of a.records.now [] a.directory.now in
    let within = below (goal.at.is_relocation_sound-requires c).After-record_of-r [] in record {
      r_value = ap record_number (record_of.ensures []) ∙ members-sound S (pre.by_index []) loop.k within;
    }
