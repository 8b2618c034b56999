-- The modules from `k` on decide.
use mathlib.Core.Path.{◌≡◌, ◌∙◌, sym}
use native.Mathlib.Omega.{arith}
use Rattle.std.proofs.Common.{rules}
use Rattle.numbers.specs.Number.{number_of, number}
use Rattle.numbers.proofs.Refusing.{no-number}
use Rattle.verifier.specs.Check.{cut_number}
use Rattle.verifier.specs.Lent.{members}
use Rattle.verifier.proofs.Firsts.{first_found, first_next}
use Rattle.verifier.proofs.Ruling.{bad_in}
use Rattle.verifier.proofs.Scratch.{marked-bad}
use Rattle.verifier.proofs.codes.cut_number.Goals as goal

pub returns-in_err-mark_code : goal.returns-in_err-mark_code
unfolding cut_number
returns-in_err-mark_code c =
    let S = members c.args.set in
    let code = c.code.ensures in
    let bad = rw code.value at (marked-bad c.code.result.now c.loop-k.w code.sound (omega (arith, code.small)) _ _ c.in_err-mark_code.ensures) in
    let same : number c.from_residual.result ≡ number_of c.in_err-mark_code.field-0.0 = search rules in
    same ∙ sym (c.loop-k.invariant ∙ first_found bad_in S c.loop-k.k (omega arith) _ bad (no-number _))

pub loop-k-preserved : goal.loop-k-preserved
loop-k-preserved c =
    let S = members c.args.set in
    let code = c.code.ensures in
    let n = number c.mark_code.result in
    let bad = rw code.value at (marked-bad c.code.result.now c.loop-k.w code.sound (omega (arith, code.small)) n _ c.mark_code.ensures) in
    let ok : n ≡ 0 = search rules in
    c.loop-k.invariant ∙ first_next bad_in S c.loop-k.k (omega arith) n bad ok
