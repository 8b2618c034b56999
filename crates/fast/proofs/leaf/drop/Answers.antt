-- `fast::leaf::drop` meets its contract: the words are there, or nothing is written.
use mathlib.Core.Path.{refl}
use Prim.Native.Nat.{◌≤◌}
use Rattle.fast.proofs.leaf.drop.Goals.{Else-h-n}
use Rattle.fast.proofs.leaf.drop.Goals as goal

enough : (c : Else-h-n) → c.args.n ≤ c.args.height.now
enough c = c.if-h-n.false

pub returns : goal.returns
returns c = λ m s. (c.if-h-n.false, refl)
