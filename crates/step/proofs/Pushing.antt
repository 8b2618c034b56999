-- At most two words are pushed, by cases.
use Prim.Native.Nat.{◌≤◌}
use native.Mathlib.Omega.{arith}
use Rattle.effect.specs.declared.effect.Push.{Push}
use Rattle.effect.specs.declared.effect.Push.TheVariants.{NoPush, PushOne, PushTwo}
use Rattle.effect.specs.Data.{pushes}

pub pushes-small : (p : Push) → pushes p ≤ 2
pushes-small NoPush = omega arith
pushes-small (PushOne x) = omega arith
pushes-small (PushTwo x y) = omega arith
