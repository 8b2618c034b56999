-- `mend::list_pairs` meets its contract: both words of each pair that is dropped are listed behind those before them.
use mathlib.Core.Path.{◌∙◌, refl, sym}
use native.Mathlib.Omega.{arith}
use native.Mathlib.Nat.{add-zero}
use lib.ListN.{length-append}
use Rattle.words.proofs.Sets.{sets_behind}
use Rattle.mend.specs.Mend.{word_places}
use Rattle.mend.proofs.Passing.{passed_start, passed-kept, passed-dropped}
use Rattle.mend.proofs.list_pairs.Goals as goal

pub loop-at-init : goal.loop-at-init
loop-at-init c =
    let first = c.of-pairs.ensures in
    passed_start first.at first.left first.least (refl, sym (add-zero _))

pub loop-at-preserved-then-not-kept : goal.loop-at-preserved-then-not-kept
loop-at-preserved-then-not-kept c =
    let a = c.args in
    let pair = word_places c.in-Some.at 2 in
    passed-dropped c.loop-at.invariant c.in-Some.ensures c.if-not-kept.true
    (λ kept dropped e. (
      c.list_words.ensures ∙ rw e.0 (sets_behind a.places.now a.to c.loop-at.next dropped pair e.1),
      rw (length-append dropped pair) (omega (arith, e.1)),
    ))

pub loop-at-preserved : goal.loop-at-preserved
loop-at-preserved c = passed-kept c.loop-at.invariant c.in-Some.ensures c.if-not-kept.false (λ kept dropped e. e)
