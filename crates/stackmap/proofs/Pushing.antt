-- What pushed words change of a list: its height, and not its topmost label.
use mathlib.Core.List.{List, []}
use mathlib.Core.Path.{◌≡◌, refl}
use Prim.Native.Nat.{ℕ, zero, suc, ◌+◌}
use native.Mathlib.Omega.{arith}
use lib.ListN.{length}
use Rattle.stackmap.specs.Slots.{Slot, push_words, top_origin}

pub pushed-height : (n : ℕ) (l : List Slot) → length (push_words n l) ≡ length l + n
pushed-height zero l = omega arith
pushed-height (suc n) l = omega (arith, pushed-height n l)

pub words-height : (n : ℕ) → length (push_words n []) ≡ n
words-height n = omega (arith, pushed-height n [])

pub pushed-origin : (n : ℕ) (l : List Slot) → top_origin (push_words n l) ≡ top_origin l
pushed-origin zero l = refl
pushed-origin (suc n) l = pushed-origin n l
