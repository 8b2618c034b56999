-- `crate::Registers::returned` meets its contract: two link words below FP, or three, by the sign of the return word.
use mathlib.Core.Path.{◌∙◌, sym}
use native.Mathlib.Omega.{arith}
use Rattle.registers.specs.Memory.{link_words}
use Rattle.registers.proofs.Links.{link-range, external-words}
use Rattle.registers.proofs.Registers.returned.Goals.{After-negated}
use Rattle.registers.proofs.Registers.returned.Goals as goal

pub overflow_sub-fp : goal.overflow_sub-fp
overflow_sub-fp c =
    let a = c.args in
    omega (arith, c.requires.fp_bound, link-range a.m.now a.self.fp)

pub overflow_sub-fp-2 : goal.overflow_sub-fp-2
overflow_sub-fp-2 c =
    let a = c.args in
    omega (arith, c.requires.fp_bound, link-range a.m.now a.self.fp)

pub overflow_sub-result : goal.overflow_sub-result
overflow_sub-result c =
    let a = c.args in
    omega (arith, c.requires.fp_bound, link-range a.m.now a.self.fp)

pub returns-then-is_above_zero : goal.returns-then-is_above_zero
unfolding link_words
returns-then-is_above_zero c =
    let if1 = c.if-is_above_zero in
    let is-above-zero = c.is_above_zero in
    let word-at2 = c.word_at in
    let word_at = c.word_at-back in
    rw (← word_at.ensures, ← is-above-zero.ensures, if1.true, word-at2.ensures)

-- Three link words.
pub overflow_sub-result-2 : goal.overflow_sub-result-2
overflow_sub-result-2 c =
    let if1 = c.if-is_above_zero in
    let is-above-zero = c.is_above_zero in
    let word_at = c.word_at-back in
    let a = c.args in
    let pre = c.requires in
    omega (
      arith,
      pre.fp_bound,
      external-words a.m.now a.self.fp (rw (← word_at.ensures) (sym is-above-zero.ensures ∙ if1.false)),
    )

pub overflow_sub-fp-3 : goal.overflow_sub-fp-3
overflow_sub-fp-3 c = overflow_sub-result-2 (goal.at.overflow_sub-fp-3 c).After-negated

pub returns : goal.returns
unfolding link_words
returns c =
    let word-at3 = c.word_at-2 in
    let negated = c.negated in
    let if1 = c.if-is_above_zero in
    let is-above-zero = c.is_above_zero in
    let word-at2 = c.word_at in
    let word_at = c.word_at-back in
    rw (← word_at.ensures, ← is-above-zero.ensures, if1.false, negated.ensures, word-at2.ensures, word-at3.ensures)
