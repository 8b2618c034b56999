-- `entries::entries_sound` meets its contract. The loop's invariant: all entries rise just if what is left of them, entry 0
-- last, rises from `least` on.
use Prim.Native.Nat.{◌-◌}
use mathlib.Core.Bool.{and-true}
use mathlib.Core.List.{[], ◌∷◌, ◌++◌}
use mathlib.Core.Path.{◌≡◌, refl, ◌∙◌}
use native.Mathlib.Nat.{sub-eq-zero_of_le}
use lib.ListN.{length}
use borrow.Author.Tests.{le-leb, lt-leb, le-ltb, lt-ltb}
use Rattle.entries.specs.Entries.{entry_at, entries_from, entries_in_order, entries_sound}
use Rattle.words.specs.Order.{rising_from}
use Rattle.words.proofs.Left.{one_left}
use Rattle.entries.proofs.entries_sound.Goals.{At-loop-p, then-entry-least-via-then-entry-least}
use Rattle.entries.proofs.entries_sound.Goals.{then-entry-least-via-else-entry-least+then-code-entry}
use Rattle.entries.proofs.entries_sound.Goals as goal

pub returns-then-not-count_sound : goal.returns-then-not-count_sound
unfolding entries_sound
returns-then-not-count_sound c = rw (← c.count_sound.ensures, c.if-not-count_sound.true)

pub loop-p-init : goal.loop-p-init
loop-p-init c = refl

-- At the loop's head what is left decides.
left-decides : (c : At-loop-p) →
    let code = c.args.code.now in
    entries_sound code
    ≡ rising_from (length code) c.loop-p.least
    (entries_from code c.loop-p.p (c.entry_count-p-end.result - c.loop-p.p) ++ (entry_at code 0 ∷ []))
unfolding entries_sound entries_in_order
left-decides c =
    rw (
      ← c.count_sound.ensures,
      c.if-not-count_sound.false,
      ← c.entry_count-p-end.ensures,
    )
    c.loop-p.invariant

pub returns-then-entry-least : goal.returns-then-entry-least
returns-then-entry-least c =
    let at = (goal.at.returns-then-entry-least c).At-loop-p in
    rw (left-decides at, one_left _ _ c.loop-p-test.true, ← c.entry_at-entry.ensures)
    (elim c.then-entry-least.branch [
      | then-entry-least-via-then-entry-least w ↦ rw (lt-leb _ _ w.if-entry-least.true)
      | then-entry-least-via-else-entry-least+then-code-entry w ↦
          rw (le-leb _ _ w.if-entry-least.false, le-ltb _ _ w.if-code-entry.true)
    ])

pub loop-p-preserved : goal.loop-p-preserved
loop-p-preserved c = c.loop-p.invariant
    ∙ rw (
      one_left _ _ c.loop-p-test.true,
      ← c.entry_at-entry.ensures,
      le-leb _ _ c.if-entry-least.false,
      lt-ltb _ _ c.if-code-entry.false,
    )

pub returns-then-least-last : goal.returns-then-least-last
returns-then-least-last c = rw (
  left-decides (goal.at.returns-then-least-last c).At-loop-p,
  sub-eq-zero_of_le c.loop-p-test.false,
  ← c.entry_at-last.ensures,
  le-leb _ _ c.if-least-last.true,
  and-true,
)

pub returns-else-least-last : goal.returns-else-least-last
returns-else-least-last c = rw (
  left-decides (goal.at.returns-else-least-last c).At-loop-p,
  sub-eq-zero_of_le c.loop-p-test.false,
  ← c.entry_at-last.ensures,
  lt-leb _ _ c.if-least-last.false,
)
