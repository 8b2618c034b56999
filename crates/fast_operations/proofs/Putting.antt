-- What is put does not depend on the value where the words for it are not there, or where it is none.
use mathlib.Core.Bool.{Bool, true, false}
use mathlib.Core.Path.{◌≡◌}
use Prim.Native.Nat.{ℕ, ◌≤◌}
use Rattle.fast.specs.Fast.{Spot}
use Rattle.fast.specs.Leaves.{PutsOne, PutsTwo}
use Rattle.operate.specs.Value.{Value}

pub puts-two : (b : Bool) (next : ℕ) (v w : Value) (T T' : Spot) → (2 ≤ T.height → v ≡ w) → PutsTwo b next v T T'
    → PutsTwo b next w T T'
puts-two true next v w T T' e ((enough, word), same) = rw (← e enough) ((enough, word), same)
puts-two false next v w T T' e same = same

pub puts-one : (b : Bool) (next : ℕ) (v w : Value) (T T' : Spot) → (1 ≤ T.height → v ≡ w) → PutsOne b next v T T'
    → PutsOne b next w T T'
puts-one true next v w T T' e ((enough, word), same) = rw (← e enough) ((enough, word), same)
puts-one false next v w T T' e same = same
