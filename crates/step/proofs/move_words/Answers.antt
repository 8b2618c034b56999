-- `step::move_words` meets its contract: the part of memory from `a` on is lent to the copy, and what lies past either end is
-- left out.
use Prim.Native.Nat.{ℕ, ◌-◌}
use mathlib.Core.Path.{refl, sym}
use native.Mathlib.Omega.{arith}
use lib.ListN.{length, take, drop, drop_of_length-le}
use lib.Seq.{take-nil}
use Rattle.words.proofs.Sets.{sets-out, sets-within}
use Rattle.step.proofs.Copying.{taken-behind}
use Rattle.step.proofs.move_words.Goals.{else-from-memory-via-then-from-memory+else-low-stack, else-from-memory-via-else-from-memory}
use Rattle.step.proofs.move_words.Goals as goal

pub returns-then-low-stack : goal.returns-then-low-stack
returns-then-low-stack c =
    let a = c.args in
    rw (← taken-behind a.n a.low a.stack.now c.min.result c.min.ensures)
    (sets-within a.memory.now a.a (take c.min.result (take (length a.stack.now - a.low) (drop a.low a.stack.now)))
    c.copy_words.new.dst (omega arith) c.copy_words.ensures)

pub returns-else-from-memory : goal.returns-else-from-memory
returns-else-from-memory c =
    let a = c.args in
    elim c.else-from-memory.branch [
      | else-from-memory-via-then-from-memory+else-low-stack w ↦
          rw (drop_of_length-le a.stack.now {i = a.low} (omega (arith, w.if-low-stack.false)), take-nil {A = ℕ} a.n) refl
      | else-from-memory-via-else-from-memory w ↦
          sym (sets-out a.memory.now a.a (take a.n (drop a.low a.stack.now)) (omega (arith, w.if-from-memory.false)))
    ]
