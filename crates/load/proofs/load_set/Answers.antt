-- `load::load_set` meets its contract: the set's number, then 8, else copy and memory are written.
use Prim.Native.Nat.{ℕ}
use mathlib.Core.List.{List, []}
use mathlib.Core.Path.{◌≡◌, ◌∙◌, sym}
use Rattle.numbers.specs.Number.{number_of}
use Rattle.numbers.proofs.Refusing.{no-number}
use Rattle.record.proofs.Sound.{handed-on}
use native.Mathlib.Omega.{arith}
use Rattle.module_set.specs.Members.{members_of}
use Rattle.relocation.specs.Relocation.{set_number, copy_of}
use Rattle.load.proofs.Modules.{set-few}
use Rattle.load.proofs.Loading.{Room, room-parts, with_number, load-refused, load-short, load-ready, begins-over}
use Rattle.load.proofs.load_set.Goals.{Else-not-is_taken}
use Rattle.load.proofs.load_set.Goals as goal

-- The set has no number, and what the answer about 8 says.
clear : (c : Else-not-is_taken) (lists : List ℕ) →
    let a = c.args in
    let S = members_of a.records.now lists a.directory.now in
    (set_number S ≡ 0) × Room S a.parameters.now a.copy.now a.memory.now a.stack.now
clear c lists =
    let is-taken = c.is_taken in
    let sound = c.in_ok-set_number in
    let a = c.args in
    let S = members_of a.records.now lists a.directory.now in (
      sym (sound.ensures lists),
      room-parts S a.parameters.now a.copy.now a.memory.now a.stack.now
          (sym (is-taken.ensures lists) ∙ c.if-not-is_taken.false),
    )

pub returns-in_err-set_number : goal.returns-in_err-set_number
returns-in_err-set_number c =
    let e = c.in_err-set_number.field-0.0 in
    let a = c.args in
    λ lists.
    let S = members_of a.records.now lists a.directory.now in
    rw (handed-on c.from_residual.result e c.from_residual.ensures.1)
    (with_number S a.parameters.now a.copy.now a.memory.now a.stack.now _ _ _
    (load-refused S a.parameters.now a.copy.now a.memory.now a.stack.now (number_of e)
    (c.in_err-set_number.ensures lists) (no-number e)))

pub is_taken-requires : goal.is_taken-requires
is_taken-requires c =
    let sound = c.in_ok-set_number in
    λ lists. sym (sound.ensures lists)

pub returns-then-not-is_taken : goal.returns-then-not-is_taken
returns-then-not-is_taken c =
    let if2 = c.if-not-is_taken in
    let is-taken = c.is_taken in
    let sound = c.in_ok-set_number in
    let a = c.args in
    λ lists.
    let S = members_of a.records.now lists a.directory.now in
    with_number S a.parameters.now a.copy.now a.memory.now a.stack.now _ _ _
    (load-short S a.parameters.now a.copy.now a.memory.now a.stack.now
    (sym (sound.ensures lists)) (sym (is-taken.ensures lists) ∙ if2.true))

pub write_copy-requires : goal.write_copy-requires
write_copy-requires c =
    let a = c.args in
    let here = clear (goal.at.write_copy-requires c).Else-not-is_taken in
    record {
      directory_len_bound = set-few a.records.now [] a.directory.now (here []).0;
      by_index = λ lists. (here lists).1.copied;
    }

pub fill-requires : goal.fill-requires
fill-requires c =
    let here = clear (goal.at.fill-requires c).Else-not-is_taken in
    record {
      by_index = λ lists. (here lists).0;
      by_index_2 = λ lists. (here lists).1.parameters;
      by_index_3 = λ lists. (here lists).1.frames;
      memory_len_bound = (here []).1.memory;
    }

pub set_start-requires : goal.set_start-requires
set_start-requires c =
    let write_copy = c.write_copy in
    let a = c.args in
    let here = clear (goal.at.set_start-requires c).Else-not-is_taken in record {
      by_index = λ lists. (here lists).0;
      by_index_2 = λ lists. let room = (here lists).1 in omega (arith, room.frames, room.memory);
      by_index_3 = λ lists.
          let S = members_of a.records.now lists a.directory.now in
          rw (write_copy.ensures lists) (begins-over (copy_of S) a.copy.now);
    }

pub returns : goal.returns
returns c =
    let set-start = c.set_start in
    let fill = c.fill in
    let write_copy = c.write_copy in
    let if2 = c.if-not-is_taken in
    let is-taken = c.is_taken in
    let sound = c.in_ok-set_number in
    let a = c.args in
    λ lists.
    let S = members_of a.records.now lists a.directory.now in
    with_number S a.parameters.now a.copy.now a.memory.now a.stack.now _ _ _
    (rw (set-start.ensures lists, write_copy.ensures lists, fill.ensures lists)
    (load-ready S a.parameters.now a.copy.now a.memory.now a.stack.now
    (sym (sound.ensures lists)) (sym (is-taken.ensures lists) ∙ if2.false)))
