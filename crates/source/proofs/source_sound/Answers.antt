-- `source::source_sound` meets its contract. The loop's invariant: the whole table rises just if what is left of it rises
-- from `least` on, and the place has gone 8 bytes a pair. The measure is what is left.
use Prim.Native.Nat.{◌-◌, ◌/◌}
use mathlib.Core.Path.{◌≡◌, ◌∙◌}
use native.Mathlib.Omega.{arith}
use native.Mathlib.Nat.{sub-zero, sub-eq-zero_of_le}
use borrow.Author.Tests.{eq-eqb, ne_eqb, le-leb, lt-leb, le-ltb, lt-ltb}
use Rattle.cursor.proofs.Pairs.{first_of}
use Rattle.header.specs.Header.{code_at, constants_at, relocation_at, versions_at, sources_at}
use Rattle.words.specs.Order.{rising_from}
use Rattle.source.specs.Source.{offsets_from, source_offsets, source_sound}
use Rattle.words.proofs.Left.{one_left}
use Rattle.source.proofs.source_sound.Goals.{At-loop}
use Rattle.source.proofs.source_sound.Goals as goal

pub returns-then-h-ne0 : goal.returns-then-h-ne0
unfolding source_sound
returns-then-h-ne0 c = rw (ne_eqb _ 0 c.if-h-ne0.true)

pub loop-init : goal.loop-init
loop-init c = (omega arith, rw sub-zero)

-- At the loop's head what is left decides.
left-decides : (c : At-loop) →
    let r = c.args.r.now in
    let h = c.args.h in
    source_sound r h ≡ rising_from h.code c.loop.least (offsets_from r c.loop.at (h.sources / 2 - c.loop.counter))
unfolding source_sound source_offsets
left-decides c = rw (eq-eqb _ 0 c.if-h-ne0.false, ← c.sources_at-at.ensures) c.loop.invariant.1

pub returns-then-offset-least : goal.returns-then-offset-least
returns-then-offset-least c = rw (
  left-decides (goal.at.returns-then-offset-least c).At-loop,
  one_left _ _ c.loop-test.true,
  ← first_of _ _ c.pair_at-offset.ensures,
  lt-leb _ _ c.if-offset-least.true,
)

pub returns-then-code-offset : goal.returns-then-code-offset
returns-then-code-offset c = rw (
  left-decides (goal.at.returns-then-code-offset c).At-loop,
  one_left _ _ c.loop-test.true,
  ← first_of _ _ c.pair_at-offset.ensures,
  le-leb _ _ c.if-offset-least.false,
  le-ltb _ _ c.if-code-offset.true,
)

pub overflow_add-at : goal.overflow_add-at
unfolding code_at constants_at relocation_at versions_at sources_at
overflow_add-at c = omega arith

pub loop-preserved : goal.loop-preserved
loop-preserved c = (
  omega arith,
  c.loop.invariant.1
      ∙ rw (
        one_left _ _ c.loop-test.true,
        ← first_of _ _ c.pair_at-offset.ensures,
        le-leb _ _ c.if-offset-least.false,
        lt-ltb _ _ c.if-code-offset.false,
      ),
)

pub returns : goal.returns
returns c = rw (left-decides (goal.at.returns c).At-loop, sub-eq-zero_of_le c.loop-test.false)
