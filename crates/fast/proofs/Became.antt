-- More that holds where something was done.
use mathlib.Core.Bool.{Bool, true, false}
use Rattle.fast.specs.Fast.{Spot, Became}

pub became-also : (b : Bool) (C D : Type 0) (T N T' : Spot) → D → Became b C T N T' → Became b (D × C) T N T'
became-also true C D T N T' d (c, e) = ((d, c), e)
became-also false C D T N T' d e = e
