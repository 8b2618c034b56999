-- The modules of a set, one by one: as many as members, each with the sizes of its record and its code as rewritten.
use mathlib.Core.Bool.{Bool, true, false}
use mathlib.Core.List.{List, [], ◌∷◌}
use mathlib.Core.Path.{◌≡◌, refl, ap}
use Prim.Native.Nat.{ℕ, zero, suc, ◌<◌, ◌≤◌}
use native.Mathlib.Omega.{arith}
use lib.Dec.{ltb}
use lib.ListN.{length}
use borrow.Author.Tests.{ltb-true, ltb-false}
use Rattle.header.specs.Header.{header_of, code_of}
use Rattle.record.proofs.Sound.{Sizes, sound-sizes, sound-code}
use Rattle.module_set.specs.Members.{Members, member_at, members_of, single}
use Rattle.module_set.specs.Linked.{records_number}
use Rattle.module_set.proofs.Shares.{member-count}
use Rattle.relocation.specs.Relocation.{relocated, set_number}
use Rattle.relocation.proofs.Rewriting.{relocated-length}
use Rattle.relocation.proofs.Sound.{set_sound}
use Rattle.relocation.proofs.Alone.{relocated-alone}
use Rattle.registers.specs.Modules.{Modules, module_at, data_start}
use Rattle.registers.specs.Program.{module_of}
use Rattle.registers.proofs.Rows.{module-past}
use Rattle.load.specs.Modules.{modules_from, modules_of}

from-length : (S T : Members) → length (modules_from S T) ≡ length T
from-length S [] = refl
from-length S (M ∷ T) = ap suc (from-length S T)

from_at : (S T : Members) (k : ℕ) → k < length T →
    module_at (modules_from S T) k ≡ module_of (member_at T k).bytes (relocated S (member_at T k).bytes)
from_at S [] k h = absurd (omega arith)
from_at S (M ∷ T) zero h = refl
from_at S (M ∷ T) (suc k) h = from_at S T k (omega arith)

module _ (S : Members) where
  pub modules-length : length (modules_of S) ≡ length S
  unfolding modules_of
  modules-length = from-length S S

  pub module-at : (k : ℕ) → k < length S →
      module_at (modules_of S) k ≡ module_of (member_at S k).bytes (relocated S (member_at S k).bytes)
  unfolding modules_of
  module-at k h = from_at S S k h

-- What a set that no number refuses has.
some-records : (S : Members) → records_number S ≡ 0 → 0 < length S
unfolding records_number
some-records [] e = absurd (omega arith)
some-records (M ∷ S) e = omega arith

module _ (S : Members) (e : set_number S ≡ 0) where
  pub set-some : 0 < length S
  set-some = some-records S (set_sound S e).records

  -- The sizes of a member, and its code.
  module _ (k : ℕ) (h : k < length S) where
    pub member-sizes : Sizes (header_of (member_at S k).bytes)
    member-sizes = sound-sizes (member_at S k).bytes ((set_sound S e).sound k h)

    pub member-code : length (code_of (member_at S k).bytes) ≤ 4096
    member-code = sound-code (member_at S k).bytes ((set_sound S e).sound k h)

  -- Each code is as short as those of records.
  pub codes-short : (k : ℕ) → length (module_at (modules_of S) k).code ≤ 4096
  codes-short k = by (ltb k (length S)) refl
    where
      by : (b : Bool) → ltb k (length S) ≡ b → length (module_at (modules_of S) k).code ≤ 4096
      by true q =
          let h : k < length S = ltb-true k (length S) q in
          let r = (member_at S k).bytes in
          rw (module-at S k h) (omega (arith, relocated-length S r, member-code k h))
      by false q =
          let h : length S ≤ k = ltb-false k (length S) q in
          rw (module-past (modules_of S) k (omega (arith, modules-length S))) (omega arith)

-- A directory of a set that no number refuses is short.
pub set-few : (records lists directory : List ℕ) → set_number (members_of records lists directory) ≡ 0 →
    length directory ≤ 67
set-few records lists directory e =
    let S = members_of records lists directory in
    omega (arith, member-count records lists directory, (set_sound S e).few)

-- The first data frame begins where the data frames do.
pub first-start : (start : ℕ) (Ms : Modules) → data_start start Ms 0 ≡ start
first-start start [] = refl
first-start start (M ∷ Ms) = refl

-- A record by itself.
pub modules-alone : (r results : List ℕ) → set_number (single r results) ≡ 0 →
    modules_of (single r results) ≡ module_of r (code_of r) ∷ []
unfolding modules_of
modules-alone r results e = rw (relocated-alone r results e)
