-- `copy::is_copy` meets its contract: what the copy begins with from a place on decides, for the members from one on. The
-- measure is the modules left.
use Prim.Native.Nat.{ℕ, ◌<◌}
use mathlib.Core.List.{List, []}
use mathlib.Core.Path.{◌≡◌, ◌∙◌, sym, ap}
use native.Mathlib.Omega.{arith}
use lib.ListN.{length, drop, length-drop}
use lib.Seq.{take_all}
use Rattle.record.proofs.Sound.{sound-code}
use Rattle.record.specs.Number.{record_number}
use Rattle.module_set.specs.Members.{members_of}
use Rattle.module_set.proofs.Every.{members-sound}
use Rattle.module_set.proofs.Shares.{member-count}
use Rattle.relocation.specs.Relocation.{begins, relocated}
use Rattle.relocation.proofs.Copying.{same_start, same-fails, same_next}
use Rattle.relocation.proofs.copy.is_copy.Goals.{After-is_relocated, After-record_of-r}
use Rattle.relocation.proofs.copy.is_copy.Goals as goal

-- A member is below their number, and its record is sound.
below : (c : After-record_of-r) (lists : List ℕ) →
    let a = c.args in
    c.loop-k.k < length (members_of a.records.now lists a.directory.now)
below c lists =
    let count = c.count-k-end in
    let a = c.args in
    omega (arith, count.ensures a.records.now lists, c.loop-k-test.true)

sound : (c : After-record_of-r) → record_number c.record_of-r.result.now ≡ 0
sound c =
    let a = c.args in
    let S = members_of a.records.now [] a.directory.now in
    ap record_number (c.record_of-r.ensures []) ∙ members-sound S (c.requires.by_index []) c.loop-k.k (below c [])

-- What is compared with is the rest of the copy.
compared : (c : After-is_relocated) (lists : List ℕ) →
    let a = c.args in
    let S = members_of a.records.now lists a.directory.now in
    c.is_relocated.result
    ≡ begins (relocated S c.record_of-r.result.now)
    (drop c.loop-k.at a.copy.now)
compared c lists =
    let a = c.args in
    let S = members_of a.records.now lists a.directory.now in
    let at = c.loop-k.at in
    let copy = a.copy.now in
    c.is_relocated.ensures a.records.now lists
    ∙ ap (begins (relocated S c.record_of-r.result.now))
    (c.part.ensures ∙ take_all (length copy) (drop at copy) (omega (arith, length-drop at copy)))

pub loop-k-init : goal.loop-k-init
loop-k-init c =
    let count = c.count-k-end in
    let a = c.args in
    let pre = c.requires in (
      omega (arith, count.ensures [] [], member-count [] [] a.directory.now, pre.directory_len_bound),
      omega arith,
      λ lists. same_start (members_of a.records.now lists a.directory.now) a.copy.now,
    )

pub returns-then-not-is_relocated : goal.returns-then-not-is_relocated
returns-then-not-is_relocated c =
    let if1 = c.if-not-is_relocated in
    let is-relocated = c.is_relocated in
    let record_of = c.record_of-r in
    let loop = c.loop-k in
    let a = c.args in
    let at = goal.at.returns-then-not-is_relocated c in
    λ lists.
    let S = members_of a.records.now lists a.directory.now in
    sym (loop.invariant.2 lists ∙ same-fails S a.copy.now loop.at loop.k (below at.After-record_of-r lists)
    record_of.result.now (record_of.ensures lists) is-relocated.result (compared at.After-is_relocated lists)
    if1.true)

pub is_relocated-requires-clause-r_value : goal.is_relocated-requires-clause-r_value
is_relocated-requires-clause-r_value c = sound (goal.at.is_relocated-requires-clause-r_value c).After-record_of-r

pub loop-k-preserved : goal.loop-k-preserved
loop-k-preserved c =
    let at = goal.at.loop-k-preserved c in
    let a = c.args in
    let r = c.record_of-r.result.now in
    let loop = c.loop-k in
    let size = ap length c.code_of-code.ensures in (
      loop.invariant.0,
      omega (arith, loop.invariant.1, sound-code r (sound at.After-record_of-r), size),
      λ lists.
          let S = members_of a.records.now lists a.directory.now in
          rw size (loop.invariant.2 lists ∙ same_next S a.copy.now loop.at loop.k (below at.After-record_of-r lists)
          r (c.record_of-r.ensures lists) c.is_relocated.result (compared at.After-is_relocated lists)
          c.if-not-is_relocated.false),
    )
