-- `copy::module_at` meets its contract: a module's number is a byte.
use mathlib.Core.List.{[]}
use native.Mathlib.Omega.{arith}
use Rattle.module_set.specs.Members.{members_of}
use Rattle.module_set.proofs.Shares.{member-count}
use Rattle.module_set.proofs.Linking.{resolved-small}
use Rattle.relocation.proofs.copy.module_at.Goals as goal

pub overflow_cast-result : goal.overflow_cast-result
overflow_cast-result c =
    let resolve = c.resolve in
    let a = c.args in
    let pre = c.requires in
    let S = members_of [] [] a.directory.now in
    omega (
      arith,
      resolve.ensures [] [],
      resolved-small S a.r.now c.from-library.result,
      member-count [] [] a.directory.now,
      pre,
    )
