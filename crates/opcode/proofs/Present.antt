-- A byte that is not 0 stands in the list.
use mathlib.Core.Bool.{Bool, true, false}
use mathlib.Core.Path.{◌≡◌, refl}
use mathlib.Core.List.{List}
use Prim.Native.Nat.{ℕ, ◌<◌}
use borrow.Author.Tests.{ltb-true, ltb-false}
use lib.Dec.{ltb}
use lib.ListN.{length}
use Rattle.words.specs.Bytes.{byte_at}
use Rattle.words.proofs.Bytes.{byte_past}

present : (s : List ℕ) (i : ℕ) (b : Bool) → ltb i (length s) ≡ b → (byte_at s i ≡ 0 → ⊥) → i < length s
present s i true e h = ltb-true i (length s) e
present s i false e h = absurd (h (byte_past s i (ltb-false i (length s) e)))

pub byte-present : (s : List ℕ) (i : ℕ) → (byte_at s i ≡ 0 → ⊥) → i < length s
byte-present s i h = present s i (ltb i (length s)) refl h
