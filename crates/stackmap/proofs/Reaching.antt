-- Every map has what is reached, since it gives each way out of what it has.
use mathlib.Core.List.{List}
use mathlib.Core.Option.{some}
use mathlib.Core.Path.{◌≡◌, subst}
use Prim.Native.Nat.{ℕ}
use Rattle.stackmap.specs.Slots.{Slot}
use Rattle.stackmap.specs.Ways.{Subject, Way}
use Rattle.stackmap.specs.StackMap.{Map, GivesEach, gives_none, gives_one, IsMap, Among, here, there, Reached, entered, stepped}

gives-among : {π : Map} {t : ℕ} {l : List Slot} {ws : List Way} → GivesEach π ws → Among t l ws → π t ≡ some l
gives-among gives_none a = elim a [ ]
gives-among (gives_one e g) here = e
gives-among (gives_one e g) (there a) = gives-among g a

pub reached-in : (U : Subject) (p : ℕ) (π : Map) → IsMap U p π → (at : ℕ) (l : List Slot) → Reached U p at l → π at ≡ some l
reached-in U p π h at l entered = h.first
reached-in U p π h at l (stepped {at = s} {l = k} {out = out} r w a) =
    let o = h.obeys s k (reached-in U p π h s k r) in
    let found : o.out ≡ out = cc (o.found, w) in
    gives-among (subst (GivesEach π) found o.gives) a
