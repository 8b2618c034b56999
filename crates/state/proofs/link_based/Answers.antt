-- `state::link_based` meets its contract: a local link, or the global link of an external one.
use mathlib.Core.Path.{◌∙◌, sym}
use native.Mathlib.Omega.{arith}
use borrow.Author.Tests.{eq-eqb}
use Rattle.registers.proofs.Links.{link-range, two-words, not-two-words}
use Rattle.state.proofs.link_based.Goals as goal

pub link_words-requires : goal.link_words-requires
link_words-requires c = omega (arith, c.requires.frame_bound, link-range c.args.memory.now c.args.frame)

pub overflow_sub-frame : goal.overflow_sub-frame
overflow_sub-frame c =
    let a = c.args in
    omega (arith, c.requires.frame_bound, c.link_words.ensures, c.if-link_words-eq2.false, link-range a.memory.now a.frame)

pub returns-then-link_words-eq2 : goal.returns-then-link_words-eq2
returns-then-link_words-eq2 c copy =
    let local = two-words c.args.memory.now c.args.frame (sym c.link_words.ensures ∙ c.if-link_words-eq2.true) in
    rw (local, eq-eqb c.link_words.result 2 c.if-link_words-eq2.true)

pub returns-else-link_words-eq2 : goal.returns-else-link_words-eq2
returns-else-link_words-eq2 c copy =
    let external = not-two-words c.args.memory.now c.args.frame (λ e. c.if-link_words-eq2.false (c.link_words.ensures ∙ e)) in
    rw (external, ← c.word_at.ensures, ← c.is_base.ensures copy)
