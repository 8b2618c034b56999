-- A set without a number has at most sixteen modules, and so a short directory.
use mathlib.Core.Path.{sym}
use native.Mathlib.Omega.{arith}
use Rattle.module_set.specs.Members.{members_of}
use Rattle.module_set.proofs.Shares.{member-count}
use Rattle.relocation.proofs.Sound.{set_sound}
use Rattle.verifier.proofs.check.set_list_number.Goals as goal

pub lacks_room-requires : goal.lacks_room-requires
lacks_room-requires c =
    let a = c.args in
    let S = members_of a.records.now a.lists.now a.directory.now in
    omega (arith, (set_sound S (sym (c.in_ok-set_number.ensures a.lists.now))).few, member-count a.records.now a.lists.now a.directory.now)

pub lists_sound-requires : goal.lists_sound-requires
lists_sound-requires c =
    let a = c.args in
    let S = members_of a.records.now a.lists.now a.directory.now in
    omega (arith, (set_sound S (sym (c.in_ok-set_number.ensures a.lists.now))).few, member-count a.records.now a.lists.now a.directory.now)
