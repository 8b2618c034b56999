-- `fast_frames::frames::copy_words` meets its contract: one word, two, and after i turns the first i are stored.
use mathlib.Core.Path.{◌≡◌}
use mathlib.Core.List.{List}
use Prim.Native.Nat.{ℕ, ◌-◌, ◌≤◌}
use lib.ListN.{length, take, drop}
use lib.Seq.{sets}
use Rattle.fast_frames.proofs.frames.copy_words.Given as goal

abbrev pub invariant-loop-i : goal.invariant-loop-i
invariant-loop-i l =
    (l.i ≤ l.n) × ((length l.memory ≡ length l.initial.memory)
    × ((m : List ℕ) → l.initial.memory ≡ sets m l.a (take l.initial.i (drop l.low l.stack)) → l.memory ≡ sets m l.a (take l.i
    (drop l.low l.stack))))

abbrev pub decreases-loop-i : goal.decreases-loop-i
decreases-loop-i l = l.n - l.i
