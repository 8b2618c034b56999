-- `step::Machine::apply` meets its contract: room for the pushed words, then the place, then memory and stack.
use Prim.Native.Nat.{◌+◌, ◌<◌}
use mathlib.Core.Path.{◌≡◌}
use native.Mathlib.Omega.{arith}
use lib.ListN.{length, take, drop}
use borrow.Author.Tests.{lt-ltb, le-ltb}
use Rattle.registers.specs.Changes.{raised}
use Rattle.step.specs.Step.{written, apply}
use Rattle.step.proofs.Pushing.{pushes-small}
use Rattle.step.proofs.Machine.apply.Goals.{After-raised, After-write_words, Else-code_size-next}
use Rattle.step.proofs.Machine.apply.Goals as goal

within : (c : Else-code_size-next) →
    c.in-Go.next.pc < c.code_size.result
within c = omega (arith, c.if-code_size-next.false)

writes : (c : After-write_words) →
    let low_word = c.low_word-low in
    let a = c.args in
    c.write_words.new.memory
    ≡ written a.memory.now (take c.in-Go.pops (drop low_word.result a.stack.now)) c.in-Go.write
writes c = c.write_words.ensures

rises : (c : After-raised) →
    c.raised.result ≡ raised c.in-Go.next (c.low_word-low.result + c.push_count.result)
rises c = c.raised.ensures

pub overflow_add-height : goal.overflow_add-height
overflow_add-height c =
    let push-count = c.push_count in
    let low_word = c.low_word-low in
    record { fits = omega (arith, low_word.ensures.1, push-count.ensures, pushes-small c.in-Go.push) }

pub returns-then-stack-height : goal.returns-then-stack-height
unfolding apply
returns-then-stack-height c =
    let trapped2 = c.trapped-then-stack-height in
    let if1 = c.if-stack-height in
    let push-count = c.push_count in
    let low_word = c.low_word-low in
    let a = c.args in
    let height = low_word.result + push-count.result in
    rw (
      c.in-Go.is,
      ← low_word.ensures.0,
      ← push-count.ensures,
      lt-ltb (length a.stack.now) height if1.true,
      trapped2.ensures,
    )

pub returns-then-code_size-next : goal.returns-then-code_size-next
unfolding apply
returns-then-code_size-next c =
    let trapped3 = c.trapped-then-code_size-next in
    let if2 = c.if-code_size-next in
    let code-size = c.code_size in
    let if1 = c.if-stack-height in
    let push-count = c.push_count in
    let low_word = c.low_word-low in
    let a = c.args in
    let height = low_word.result + push-count.result in
    rw (
      c.in-Go.is,
      ← low_word.ensures.0,
      ← push-count.ensures,
      le-ltb (length a.stack.now) height if1.false,
      ← code-size.ensures,
      le-ltb c.in-Go.next.pc code-size.result (omega (arith, if2.true)),
      trapped3.ensures,
    )

pub returns-in-Trap : goal.returns-in-Trap
unfolding apply
returns-in-Trap c =
    let trapped = c.trapped in
    rw (c.in-Trap.is, trapped.ensures)

pub returns-in-Finish : goal.returns-in-Finish
unfolding apply
returns-in-Finish c =
    rw c.in-Finish.is

pub returns-else-code_size-next : goal.returns-else-code_size-next
unfolding apply
returns-else-code_size-next c =
    let push-words = c.push_words in
    let code-size = c.code_size in
    let if1 = c.if-stack-height in
    let push-count = c.push_count in
    let low_word = c.low_word-low in
    let a = c.args in
    let height = low_word.result + push-count.result in
    rw (
      c.in-Go.is,
      ← low_word.ensures.0,
      ← push-count.ensures,
      le-ltb (length a.stack.now) height if1.false,
      ← code-size.ensures,
      lt-ltb c.in-Go.next.pc code-size.result (within (goal.at.returns-else-code_size-next c).Else-code_size-next),
      writes (goal.at.returns-else-code_size-next c).After-write_words,
      push-words.ensures,
      rises (goal.at.returns-else-code_size-next c).After-raised,
    )
