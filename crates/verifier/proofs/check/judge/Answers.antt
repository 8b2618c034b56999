-- The numbers 10 to 14 of any module, then the own one.
use mathlib.Core.Path.{◌∙◌, sym}
use lib.ListN.{length}
use Rattle.numbers.proofs.Refusing.{refuses}
use Rattle.verifier.specs.Check.{set_check, verdict_of}
use Rattle.verifier.specs.Lent.{members}
use Rattle.verifier.specs.Tables.{own_examined}
use Rattle.verifier.proofs.Records.{listed}
use Rattle.verifier.proofs.Ruling.{examined-judged}
use Rattle.verifier.proofs.check.judge.Goals as goal

pub code-requires : goal.code-requires
code-requires c = (listed (members c.args.set) c.args.own (length c.args.w.now) c.requires).inside

pub clear_front-requires : goal.clear_front-requires
clear_front-requires c = rw c.code.ensures.value (listed (members c.args.set) c.args.own (length c.args.w.now) c.requires).enough

pub returns-in-Err : goal.returns-in-Err
unfolding set_check verdict_of
returns-in-Err c =
    rw (c.clear_front.ensures, c.code.ensures.value, c.requires, ← c.in-Err.ensures, refuses c.in-Err.refusal)

pub returns-in-Ok : goal.returns-in-Ok
unfolding set_check own_examined
returns-in-Ok c =
    let a = c.args in
    let S = members a.set in
    let L = listed S a.own (length a.w.now) c.requires in
    let verdict = examined-judged S L.linkable a.own L.inside (sym c.in-Ok.ensures) in
    c.examine_own.ensures ∙ rw (c.requires, verdict)
