-- `number::set_number` meets its contract: the numbers of the records, then 17, then 18.
use mathlib.Core.List.{[]}
use mathlib.Core.Path.{◌∙◌, sym}
use native.Mathlib.Omega.{arith}
use Rattle.numbers.proofs.Refusing.{refuses}
use Rattle.module_set.specs.Members.{members_of}
use Rattle.module_set.proofs.Linking.{linked-few}
use Rattle.module_set.proofs.Shares.{member-count}
use Rattle.record.proofs.Sound.{handed-on}
use Rattle.relocation.specs.Relocation.{set_number}
use Rattle.relocation.proofs.number.set_number.Goals as goal

pub returns-in_err-records_number : goal.returns-in_err-records_number
unfolding set_number
returns-in_err-records_number c =
    let e = c.in_err-records_number.field-0.0 in
    λ lists.
    rw (handed-on c.from_residual.result e c.from_residual.ensures.1, ← c.in_err-records_number.ensures lists, refuses e)

pub returns-then-not-is_linked : goal.returns-then-not-is_linked
unfolding set_number
returns-then-not-is_linked c = λ lists.
    rw (← c.in_ok-records_number.ensures lists, ← c.is_linked.ensures lists, c.if-not-is_linked.true)

pub all_sound-requires-clause-directory_len_bound : goal.all_sound-requires-clause-directory_len_bound
all_sound-requires-clause-directory_len_bound c =
    let a = c.args in
    let S = members_of a.records.now [] a.directory.now in
    let few = linked-few S (sym (c.is_linked.ensures []) ∙ c.if-not-is_linked.false) in
    omega (arith, few, member-count a.records.now [] a.directory.now)

pub returns-then-not-all_sound : goal.returns-then-not-all_sound
unfolding set_number
returns-then-not-all_sound c = λ lists.
    rw (
      ← c.in_ok-records_number.ensures lists,
      ← c.is_linked.ensures lists,
      c.if-not-is_linked.false,
      ← c.all_sound.ensures lists,
      c.if-not-all_sound.true,
    )

pub returns : goal.returns
unfolding set_number
returns c = λ lists.
    rw (
      ← c.in_ok-records_number.ensures lists,
      ← c.is_linked.ensures lists,
      c.if-not-is_linked.false,
      ← c.all_sound.ensures lists,
      c.if-not-all_sound.false,
    )
