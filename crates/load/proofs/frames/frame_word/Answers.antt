-- `frames::frame_word` meets its contract: by which part of the data frame the word is in.
use mathlib.Core.Path.{sym, ◌∙◌}
use native.Mathlib.Omega.{arith}
use Rattle.header.specs.Header.{code_at, constants_at}
use Rattle.load.proofs.Framing.{word_first, word-second, word-third, word-parameter, word-global}
use Rattle.load.proofs.Framing.{word-constant, word-past}
use Rattle.load.proofs.frames.frame_word.Goals as goal

pub returns-then-i-eq0 : goal.returns-then-i-eq0
returns-then-i-eq0 c =
    let if1 = c.if-i-eq0 in
    let a = c.args in
    let pre = c.requires in
    sym (word_first a.k a.start a.parameters.now a.r.now a.h pre.h_value a.i if1.true)

pub returns-then-i-eq1 : goal.returns-then-i-eq1
returns-then-i-eq1 c =
    let if2 = c.if-i-eq1 in
    let a = c.args in
    let pre = c.requires in
    sym (word-second a.k a.start a.parameters.now a.r.now a.h pre.h_value a.i if2.true)

pub returns-then-i-eq2 : goal.returns-then-i-eq2
returns-then-i-eq2 c =
    let if3 = c.if-i-eq2 in
    let a = c.args in
    let pre = c.requires in
    sym (word-third a.k a.start a.parameters.now a.r.now a.h pre.h_value a.i if3.true)

pub returns-then-j-parameters : goal.returns-then-j-parameters
returns-then-j-parameters c =
    let if4 = c.if-j-parameters in
    let if3 = c.if-i-eq2 in
    let if2 = c.if-i-eq1 in
    let if1 = c.if-i-eq0 in
    let a = c.args in
    let pre = c.requires in
    sym (word-parameter a.k a.start a.parameters.now a.r.now a.h pre.h_value a.i
    (omega (arith, if1.false, if2.false, if3.false)) if4.true)

pub returns-then-j-globals : goal.returns-then-j-globals
returns-then-j-globals c =
    let if5 = c.if-j-globals in
    let if4 = c.if-j-parameters in
    let if3 = c.if-i-eq2 in
    let if2 = c.if-i-eq1 in
    let if1 = c.if-i-eq0 in
    let a = c.args in
    let pre = c.requires in
    sym (word-global a.k a.start a.parameters.now a.r.now a.h pre.h_value a.i
    (omega (arith, if1.false, if2.false, if3.false)) if4.false if5.true)

pub overflow_add-constants_at : goal.overflow_add-constants_at
unfolding code_at constants_at
overflow_add-constants_at c = omega arith

pub returns-then-n-h : goal.returns-then-n-h
returns-then-n-h c =
    let word_at = c.word_at in
    let constants-at = c.constants_at in
    let if6 = c.if-n-h in
    let if5 = c.if-j-globals in
    let if3 = c.if-i-eq2 in
    let if2 = c.if-i-eq1 in
    let if1 = c.if-i-eq0 in
    let a = c.args in
    let pre = c.requires in
    word_at.ensures ∙ rw constants-at.ensures
    (sym (word-constant a.k a.start a.parameters.now a.r.now a.h pre.h_value a.i
    (omega (arith, if1.false, if2.false, if3.false)) pre.parameters_len_bound if5.false if6.true))

pub returns : goal.returns
returns c =
    let if6 = c.if-n-h in
    let if5 = c.if-j-globals in
    let if3 = c.if-i-eq2 in
    let if2 = c.if-i-eq1 in
    let if1 = c.if-i-eq0 in
    let a = c.args in
    let pre = c.requires in
    sym (word-past a.k a.start a.parameters.now a.r.now a.h pre.h_value a.i
    (omega (arith, if1.false, if2.false, if3.false)) pre.parameters_len_bound if5.false if6.false)
