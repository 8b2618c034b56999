-- No refusal has the number 0. By cases.
use mathlib.Core.Bool.{false}
use mathlib.Core.Path.{◌≡◌, refl}
use Prim.Native.Nat.{◌≤◌}
use native.Mathlib.Omega.{arith}
use lib.Dec.{eqb}
use Rattle.numbers.specs.Number.{number_of}
use Rattle.numbers.specs.declared.Refusal.{Refusal}
use Rattle.numbers.specs.declared.Refusal.TheVariants.{Short, Oversized, Length, Version, Sources, Entries, Room, Results, Unserved}
use Rattle.numbers.specs.declared.Refusal.TheVariants.{Past, Stray, Misplaced, Uncallable, Unmapped, RunFile, Linkage, Relocation, State}

pub some-number : (e : Refusal) → 1 ≤ number_of e
some-number Short = omega arith
some-number Oversized = omega arith
some-number Length = omega arith
some-number Version = omega arith
some-number Sources = omega arith
some-number Entries = omega arith
some-number Room = omega arith
some-number Results = omega arith
some-number Unserved = omega arith
some-number Past = omega arith
some-number Stray = omega arith
some-number Misplaced = omega arith
some-number Uncallable = omega arith
some-number Unmapped = omega arith
some-number RunFile = omega arith
some-number Linkage = omega arith
some-number Relocation = omega arith
some-number State = omega arith

-- As a test, by which a definition with `eqb n 0` goes on.
pub refuses : (e : Refusal) → eqb (number_of e) 0 ≡ false
refuses Short = refl
refuses Oversized = refl
refuses Length = refl
refuses Version = refl
refuses Sources = refl
refuses Entries = refl
refuses Room = refl
refuses Results = refl
refuses Unserved = refl
refuses Past = refl
refuses Stray = refl
refuses Misplaced = refl
refuses Uncallable = refl
refuses Unmapped = refl
refuses RunFile = refl
refuses Linkage = refl
refuses Relocation = refl
refuses State = refl

-- What a refusal leaves: anything, from a number that is 0.
pub no-number : (e : Refusal) → number_of e ≡ 0 → ⊥
no-number e z = omega (arith, some-number e)
